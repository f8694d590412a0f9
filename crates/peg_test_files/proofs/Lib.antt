mod FolderLemmas
mod ResultLemmas
mod TestedLemmas
