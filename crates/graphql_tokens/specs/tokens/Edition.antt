-- The two editions of GraphQL texts that are defined here. The code reads the current one.

-- `Former` departs from GraphQL October 2021 in six things. A `\u` escape that names a surrogate is none, where October
-- 2021 allows it (section 2.9.4). Strings, block strings and comments may hold any character, where October 2021 allows
-- tabs, line ends and U+0020 to U+FFFF alone (section 2.1). In a block string a blank line that is shorter than the common
-- indent stays as it is, where October 2021 leaves an empty line (section 2.9.4). The directives of a variable definition
-- may stand before its default, and variables may stand in them, where October 2021 allows neither (section 2.10). And no
-- description stands before `schema`, where October 2021 allows one (section 3.3).
-- `Current` has two kinds of string units more, `\u{..}` and two `\u` escapes that name the halves of a surrogate pair,
-- and a description before `schema`.
pub data Edition : Type 0 where
  Former : Edition
  Current : Edition
