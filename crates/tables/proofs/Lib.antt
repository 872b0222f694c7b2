mod Stacks
mod Faults
mod Members
mod Turning
