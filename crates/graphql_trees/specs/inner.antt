-- Inner: what the code keeps and finds, on the way to the public definitions.
pub mod Loans
pub mod OperationsLeft
