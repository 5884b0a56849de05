-- The fields of a row.
use Rattle.std.specs.Prelude.{ℕ, ◌-◌, ◌==◌, ◌&&◌, ◌||◌, not, Bool, true, false, nat_le, if◌then◌else◌, List, [], ◌∷◌, ◌++◌, length, take, drop, slice_index}
use Rattle.std.specs.List.{suffix_len, list_any}

abbrev pub is_either : (one other byte : ℕ) → Bool
is_either one other byte = byte == one || byte == other

-- a space or a tab
abbrev pub is_blank : ℕ → Bool
is_blank b = is_either 32 9 b

abbrev pub trim_front : List ℕ → List ℕ
trim_front [] = []
trim_front (b ∷ bytes) = if is_blank b then trim_front bytes else b ∷ bytes

abbrev pub trim_end : List ℕ → List ℕ
trim_end bytes = take (length bytes - suffix_len is_blank bytes) bytes

-- without the blanks at both ends
abbrev pub trim : List ℕ → List ℕ
trim bytes = trim_end (trim_front bytes)

-- it begins and ends in a double quote (34)
abbrev pub is_quoted : List ℕ → Bool
is_quoted bytes = nat_le 2 (length bytes) && (slice_index bytes 0 == 34 && slice_index bytes (length bytes - 1) == 34)

-- what stands between two double quotes
abbrev pub unquoted : List ℕ → List ℕ
unquoted bytes = if is_quoted bytes then take (length bytes - 2) (drop 1 bytes) else bytes

-- what a piece between separators has: blanks around it and quotes aside
unfoldable pub content : List ℕ → List ℕ
content piece = unquoted (trim piece)

-- a byte after which text stands in quotes, if it did before
abbrev pub quoted_after : Bool → ℕ → Bool
quoted_after quoted b = if b == 34 then not quoted else quoted

-- The fields from a place on, where a piece has begun so and may stand in quotes: a separator outside quotes ends a piece.
abbrev pub fields_from : (separator : ℕ) → (quoted : Bool) → (front : List ℕ) → List ℕ → List (List ℕ)
fields_from separator quoted front [] = content front ∷ []
fields_from separator quoted front (b ∷ bytes) =
    if b == separator && not quoted then content front ∷ fields_from separator false [] bytes else fields_from separator (quoted_after quoted b) (front ++ b ∷ []) bytes

-- the fields of a row, of which there is one at least
abbrev pub fields : (separator : ℕ) → List ℕ → List (List ℕ)
fields separator row = fields_from separator false [] row

-- two rows have as many fields
abbrev pub are_as_many : List (List ℕ) → List (List ℕ) → Bool
are_as_many [] [] = true
are_as_many [] (f ∷ fs) = false
are_as_many (f ∷ fs) [] = false
are_as_many (f ∷ fs) (g ∷ gs) = are_as_many fs gs

-- ---- what separates

abbrev pub has_byte : ℕ → List ℕ → Bool
has_byte b bytes = list_any (λ c. c == b) bytes

-- a comma (44) if the row of names has one, else a semicolon (59), else a tab
abbrev pub separator_of : (names : List ℕ) → ℕ
separator_of names = if has_byte 44 names then 44 else (if has_byte 59 names then 59 else 9)
