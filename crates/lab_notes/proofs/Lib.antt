mod KnownLaws
mod LineLaws
mod PassLaws
