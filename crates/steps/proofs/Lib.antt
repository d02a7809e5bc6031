-- `Laws`, `Filling` and `Before` are what the functions' proofs cite, `Exact` and `Before` what a caller does; `Exactly` and `Cases` are for whoever proves.
pub mod Cases
pub mod Exactly
pub mod Laws
pub mod Filling
pub mod Exact
pub mod Before
