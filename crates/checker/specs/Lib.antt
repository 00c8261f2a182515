-- What refusals 1 to 6 give to the rules behind them, and the verdict rule by rule.
pub mod Ranges
pub mod Narrow
pub mod Rules
