pub mod Fitting
pub mod Performed
pub mod Renamings
pub mod SampleGraphs
pub mod SampleRuns
pub mod Sizes
pub mod Strict
pub mod Walking
