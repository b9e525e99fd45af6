pub mod FieldParts
pub mod DecodeAnswers
pub mod NumberAnswers
pub mod DecodeGiven
pub mod BodyRead
pub mod Places
pub mod Accepted
pub mod RoundTrip
pub mod Lengths
pub mod Small
mod Leads
pub mod Linked
