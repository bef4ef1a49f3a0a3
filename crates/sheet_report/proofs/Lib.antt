pub mod Topics
pub mod SheetLines
pub mod AnyRuns
pub mod FileGrades
pub mod Under
pub mod Again
