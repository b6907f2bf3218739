-- What is printed on a page in memory.
use Rattle.std.specs.Prelude.{◌≡◌, ℕ, false, List, [], ◌++◌}
use Rattle.text_page.specs.declared.draft.Draft.{Draft}

-- nothing was printed
abbrev pub IsBlank : Draft → Type 0
IsBlank draft = (draft.lacks ≡ false) × (draft.text.items ≡ [])

-- unless memory was wanting, the one holds the text of the other and this one
abbrev pub Wrote : Draft → Draft → List ℕ → Type 0
Wrote old new text = new.lacks ≡ false → (old.lacks ≡ false) × (new.text.items ≡ old.text.items ++ text)
