pub mod Fewest
pub mod Least
pub mod Runs
pub mod Costs
pub mod Alike
pub mod Bound
