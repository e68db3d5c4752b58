mod EntryByEntry
mod Spans
