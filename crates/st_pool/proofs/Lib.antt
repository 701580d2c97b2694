mod Examples
mod IndexLaws
mod KindsLaws
mod LastSetLaws
mod PlaceLaws
mod PlacesLaws
mod StandingLaws
mod VariableLaws
