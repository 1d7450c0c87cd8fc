pub mod Guards
pub mod Listing
pub mod Lists
pub mod Making
pub mod Naming
pub mod Opening
pub mod Outlining
pub mod Owning
pub mod Paths
pub mod Telling
pub mod Valuing
mod Deciding
mod Pinning
mod Having
mod Relating
pub mod Agreeing
mod Keeping
pub mod Ways
mod OpenAlike
pub mod Asking
mod Certain
mod Lining
mod Using
mod Levelling
pub mod Clauses
mod OwnFlawless
pub mod Seeing
mod Uniting
mod Known
pub mod Founding
pub mod Hulls
pub mod Joining
pub mod Pruning
pub mod TellingSupport
pub mod Splitting
pub mod Thinning
pub mod Leaving
pub mod Reducing
pub mod Denying
pub mod Weighing
pub mod Topping
pub mod Settled
pub mod Planning
