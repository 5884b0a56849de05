-- The numbers of the items of a trace in one that has the same cycles and other readies.
use Rattle.std.specs.Prelude.{ℕ, ◌+◌, List, [], ◌∷◌, if◌then◌else◌, slice_index_or}
use Rattle.onfi_cycle.specs.declared.item.Item.{Item}
use Rattle.onfi_cycle.specs.Channel.{is_cycle}
use Rattle.trace_data.specs.declared.origin.Origin.{Origin}
use Rattle.trace_data.specs.declared.origin.Origin.TheVariants.{Unknown, Beginning, Erased, Programmed}
use Rattle.trace_data.specs.declared.difference.Difference.{Difference}

abbrev pub listed_place : ℕ → Item → List ℕ
listed_place n i = if is_cycle i then n ∷ [] else []

-- the places of the cycles among items, of which the first is at this place
abbrev pub cycle_places : ℕ → List Item → List ℕ
cycle_places n [] = []
cycle_places n (i ∷ items) = if is_cycle i then n ∷ cycle_places (n + 1) items else cycle_places (n + 1) items

abbrev pub first_place : List ℕ → ℕ
first_place [] = 0
first_place (n ∷ places) = n

abbrev pub places_behind : List ℕ → List ℕ
places_behind [] = []
places_behind (n ∷ places) = places

-- the number of each item, where the cycles from here on have these: a ready has that of the cycle after it
abbrev pub numbers_of : List ℕ → List Item → List ℕ
numbers_of places [] = []
numbers_of places (i ∷ items) = first_place places ∷ numbers_of (if is_cycle i then places_behind places else places) items

abbrev pub number_in : List ℕ → ℕ → ℕ
number_in numbers n = slice_index_or numbers n n

abbrev pub origin_numbered : List ℕ → Origin → Origin
origin_numbered numbers Unknown = Unknown
origin_numbered numbers Beginning = Beginning
origin_numbered numbers (Erased n) = Erased (number_in numbers n)
origin_numbered numbers (Programmed n) = Programmed (number_in numbers n)

abbrev pub numbered_by : List ℕ → Difference → Difference
numbered_by numbers d = record d { item = number_in numbers d.item; origin = origin_numbered numbers d.origin }
