pub mod Receivers
pub mod Addresses
pub mod Fates
pub mod Moves
pub mod TraceMoves
pub mod KeySteps
pub mod SessionSteps
pub mod FreshSteps
pub mod Counts
pub mod KeyLists
pub mod FastCounts
pub mod IsoCounts
pub mod GroupCounts
pub mod SlotLists
pub mod Normal
pub mod Unseen
pub mod Fewer
pub mod Room
pub mod Roomy
pub mod Isolation
pub mod Limits
pub mod FastLimits
pub mod IsoLimits
pub mod GroupSteps
pub mod GroupLimits
pub mod Fits
pub mod Refusals
pub mod HeardSteps
pub mod FullReports
pub mod EntrySteps
pub mod ChoiceSteps
pub mod NoteChoice
pub mod Ignoring
pub mod Noted
pub mod FastTable
pub mod SessionTable
pub mod Computed
mod ClaimCases
mod FastCases
mod ChoiceCases
mod RowCases
mod TransportCases
mod NetCases
mod IsolationCases
pub mod NetChoiceCases
pub mod GroupCases
pub mod CounterCases
pub mod RankCases
pub mod WindowCases
pub mod SessionCases
pub mod OwnCases
pub mod EndingCases
pub mod LineCases
pub mod DecidingCases
pub mod Lengths
pub mod FitDatagrams
pub mod FitRoom
pub mod FitHandedOver
pub mod FitHeld
pub mod FitSentences
