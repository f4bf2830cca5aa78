mod MarkedRules
mod MarkedRuns
