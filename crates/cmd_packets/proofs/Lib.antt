mod CodedForms
mod ReadCommands
mod SpelledCommands
