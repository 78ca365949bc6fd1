pub mod BreachLaws
