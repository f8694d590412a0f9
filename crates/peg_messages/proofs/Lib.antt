mod CharacterLemmas
mod ListingLemmas
mod AppendLemmas
mod FileNameLemmas
mod FilteredTexts
