mod Once
mod Stages
mod Steps
