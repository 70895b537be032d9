pub mod Entering
pub mod EnteringLaws
pub mod Laws
pub mod Permission
pub mod PermissionLaws
pub mod StepLaws
pub mod Table
pub mod TableLaws
