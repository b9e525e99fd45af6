pub mod Wrote
pub mod Decimal
pub mod HexBytes
pub mod Outcomes
pub mod Reports
pub mod WholeReport
pub mod Examples
pub mod Linked
