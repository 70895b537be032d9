pub mod Applying
pub mod Expiring
pub mod Machines
pub mod Opening
pub mod Store
pub mod Within
