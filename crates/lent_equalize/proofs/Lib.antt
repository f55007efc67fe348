pub mod Extra
