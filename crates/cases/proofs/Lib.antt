-- The claim.
pub mod Claim
