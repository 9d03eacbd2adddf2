pub mod SoundHomes
pub mod TextLaws
pub mod SoundCatalogs
pub mod SoundSchemas
pub mod SmallLiterals
pub mod BaseLayouts
