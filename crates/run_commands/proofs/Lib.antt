mod Posed
mod Searched
mod Found
mod PosedTrials
