mod Blank
mod Chains
