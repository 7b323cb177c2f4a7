mod SortedFirings
mod Journal
