-- Units and windows.
pub mod Units
pub mod Window
