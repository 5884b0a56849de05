-- The rule of the lease table: its words, the views of its seats, and one list of all calls.
use Rattle.std.specs.Prelude.{◌≡◌, ◌⊎◌, ℕ, ◌+◌, ◌<◌, ◌≤◌, Bool, true, false, not, ◌&&◌, ◌==◌, if◌then◌else◌, Option, Some, None, List, [], ◌∷◌, ◌++◌, length, nat_lt, slice_index, MatchBool}
use mathlib.Core.Option.{some}
use lib.ListN.{get_elem?}
use Rattle.atomic_table.specs.Table.{State, Me, Step}
use Rattle.lun_lease.specs.declared.rule.View.{View}
use Rattle.lun_lease.specs.declared.rule.Call.{Call}
use Rattle.lun_lease.specs.declared.rule.Call.TheVariants.{Given, Refused, Released}

-- it has one part of the table, holds this LUN or nothing, and has made these calls
abbrev pub view : Option ℕ → List Call → View
view holds calls = record { holds = holds; beside = None; calls = calls; parts = 1 }

-- it has so many parts, holds nothing, and has made these calls
abbrev pub bare : ℕ → List Call → View
bare parts calls = record { holds = None; beside = None; calls = calls; parts = parts }

-- it has one part, holds nothing, and has made no call
abbrev pub newcomer : View
newcomer = view None []

-- the parts of all views
abbrev pub all_parts : List View → ℕ
all_parts [] = 0
all_parts (v ∷ views) = v.parts + all_parts views

-- the view has a part and holds nothing
abbrev pub is_idle : Option ℕ → Option ℕ → ℕ → Bool
is_idle None None parts = nat_lt 0 parts
is_idle None (Some l) parts = false
is_idle (Some l) beside parts = false

-- how many views have a part and hold nothing
abbrev pub count_idle : List View → ℕ
count_idle [] = 0
count_idle (v ∷ views) = if is_idle v.holds v.beside v.parts then count_idle views + 1 else count_idle views

-- the LUN is one that it holds
abbrev pub Has : View → ℕ → Type 0
Has v lun = (v.holds ≡ Some lun) ⊎ (v.beside ≡ Some lun)

-- no LUN lies beside itself
abbrev pub IsApart : View → Type 0
IsApart v = (lun : ℕ) → v.holds ≡ Some lun → v.beside ≡ Some lun → ⊥

-- a call, by the seat that made it
abbrev pub Entry : Type 0
Entry = ℕ × Call

-- whether the LUN is given away after a call, where before it was so or not
abbrev pub given_by : ℕ → Bool → Call → Bool
given_by lun was (Given l) = if l == lun then true else was
given_by lun was (Refused l) = was
given_by lun was (Released l) = if l == lun then false else was

-- whether the calls leave the LUN given and not released
abbrev pub is_given : ℕ → Bool → List Entry → Bool
is_given lun was [] = was
is_given lun was (e ∷ es) = is_given lun (given_by lun was e.1) es

-- a claim is given a LUN that is free, and refused one that is given away; only a LUN that is given away is released
abbrev pub answers_truly : ℕ → Bool → Call → Bool
answers_truly lun was (Given l) = if l == lun then not was else true
answers_truly lun was (Refused l) = if l == lun then was else true
answers_truly lun was (Released l) = if l == lun then was else true

-- of the calls on this LUN, each answer is true at its place
abbrev pub is_truthful : ℕ → Bool → List Entry → Bool
is_truthful lun was [] = true
is_truthful lun was (e ∷ es) = answers_truly lun was e.1 && is_truthful lun (given_by lun was e.1) es

-- a LUN that is given has the word 1
abbrev pub as_word : Bool → ℕ
as_word true = 1
as_word false = 0

-- the calls of one seat, in order
abbrev pub calls_of : ℕ → List Entry → List Call
calls_of seat [] = []
calls_of seat (e ∷ es) = if e.0 == seat then e.1 ∷ calls_of seat es else calls_of seat es

module _ {S : Type 0} where
  -- the seat of this number has this view, which holds the LUN
  abbrev pub Holds : State S View → ℕ → View → ℕ → Type 0
  Holds s seat v lun = (get_elem? s.views seat ≡ some v) × Has v lun

  -- The rule. There is one list of all calls
  pub record Keeps (s : State S View) : Type 0 where
    pub log : List Entry
    pub wide : length s.words ≡ 16
    -- a word is 1 exactly where the whole list leaves its LUN given, and else 0
    pub word : (lun : ℕ) → lun < 16 → slice_index s.words lun ≡ as_word (is_given lun false log)
    -- a LUN that is given is held by some seat, and one that is held is given
    pub held : (lun : ℕ) → is_given lun false log ≡ true → (seat : ℕ) × (v : View) × Holds s seat v lun
    pub given : (lun seat : ℕ) (v : View) → Holds s seat v lun → (lun < 16) × (is_given lun false log ≡ true)
    -- no two seats hold one LUN, and no seat holds one twice
    pub one : (lun i j : ℕ) (v w : View) → Holds s i v lun → Holds s j w lun → i ≡ j
    pub apart : (seat : ℕ) (v : View) → get_elem? s.views seat ≡ some v → IsApart v
    -- there are sixteen parts, and who holds a LUN has one
    pub sixteen : all_parts s.views ≡ 16
    pub able : (lun seat : ℕ) (v : View) → Holds s seat v lun → 0 < v.parts
    -- each answer in the list is true
    pub truthful : (lun : ℕ) → is_truthful lun false log ≡ true
    -- the calls of a seat are the entries of the log that name it, in their order; no entry names a seat that isn't made yet
    pub own : (seat : ℕ) (v : View) → get_elem? s.views seat ≡ some v → v.calls ≡ calls_of seat log
    pub later : (seat : ℕ) → length s.views ≤ seat → calls_of seat log ≡ []

  -- what a claim tells: the word was 0, and the seat holds the LUN; or it was 1, and the seat holds what it held. Either answer joins its calls
  abbrev pub TellsClaim : Step S → Me S View → ℕ → Me S View → Type 0
  TellsClaim st m found m' = (m'.1 ≡ m.1) × MatchBool (found == 0)
      (m'.0 ≡ view (Some st.word) (m.0.calls ++ Given st.word ∷ []))
      ((found ≡ 1) × (m'.0 ≡ view m.0.holds (m.0.calls ++ Refused st.word ∷ [])))

  -- what a release tells: the seat holds nothing, and the release joins its calls
  abbrev pub TellsRelease : Step S → Me S View → ℕ → Me S View → Type 0
  TellsRelease st m found m' = (m'.1 ≡ m.1) × (m'.0 ≡ view None (m.0.calls ++ Released st.word ∷ []))

  -- what a comparison tells: the seat is as it was, and its two LUNs differ
  abbrev pub TellsApart : Step S → Me S View → ℕ → Me S View → Type 0
  TellsApart st m found m' = (m' ≡ m) × IsApart m.0
