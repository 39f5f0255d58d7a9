pub mod CallerSteps
pub mod FilmRows
pub mod FilmSteps
