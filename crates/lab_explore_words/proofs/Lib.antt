mod NumbersApart
mod ControlsApart
mod ValuesApart
mod ObjectsApart
