pub mod MigrateTexts
pub mod MigrateBack
