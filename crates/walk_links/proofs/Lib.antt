pub mod Does
pub mod Links
pub mod LinksOf
