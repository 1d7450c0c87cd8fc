pub mod Distinct
pub mod Forms
pub mod Amounts
pub mod Nested
pub mod Numbered
pub mod Rules
