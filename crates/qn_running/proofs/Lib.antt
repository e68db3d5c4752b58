mod AuditEnds
mod NodeCauses
mod NodeEnds
mod NodeLogging
mod NodeRuns
mod PolledTexts
