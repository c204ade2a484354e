pub mod Laws
pub mod LineMeaning
pub mod Lines
pub mod NodeScripts
pub mod ReportProgress
pub mod Reports
pub mod Steps
