pub mod CalendarLaws
pub mod CivilLaws
pub mod ClockCuts
pub mod ClockForms
pub mod DateLaws
pub mod DayCuts
pub mod DayForms
pub mod DayLemmas
pub mod DayReads
pub mod DecimalLaws
mod Examples
pub mod NameLaws
pub mod RangeLaws
pub mod Scans
pub mod TimeCuts
pub mod TimeForms
pub mod WrittenDates
