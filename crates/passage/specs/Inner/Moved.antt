-- A journal whose records moved down one: the last is gone, and the first stands twice.
use Rattle.std.specs.Prelude.{ℕ, ◌-◌, List, ◌++◌, length, take}

abbrev pub moved_down : List ℕ → List ℕ
moved_down journal = take 29 journal ++ take (length journal - 29) journal
