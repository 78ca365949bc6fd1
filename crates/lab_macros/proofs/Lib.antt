mod WalkLaws
mod SayingLaws
mod ExpansionLaws
