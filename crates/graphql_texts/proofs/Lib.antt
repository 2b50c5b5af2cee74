mod Furthest
mod Lacking
mod LineFeeds
mod PrintedTrees
mod SameMeaning
