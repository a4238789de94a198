pub mod Helping
pub mod HelpLines
