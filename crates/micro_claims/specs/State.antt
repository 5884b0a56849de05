-- What is known of a program before its first word, and where something is open.
use Rattle.std.specs.Prelude.{Bool, true, false, Option, None}
use Rattle.micro_word.specs.Text.{Microprogram}
use Rattle.micro_program.specs.Lines.{continues_cache_read}
pub use Rattle.micro_claims.specs.Spans.{Span, Growth, exactly}
use Rattle.micro_claims.specs.Sets.{has}
pub use Rattle.micro_claims.specs.Planes.{Planes, just_plane, no_planes}
pub use Rattle.micro_claims.specs.declared.page_range.PageRange.{PageRange}
pub use Rattle.micro_claims.specs.declared.registers.Registers.{Registers}
pub use Rattle.micro_claims.specs.declared.place.Place.{Place}
pub use Rattle.micro_claims.specs.declared.place.Place.TheVariants.{Closed, After, InData, InColumn, InFeatures, Unknown}
pub use Rattle.micro_claims.specs.declared.drift.Drift.{Drift}
pub use Rattle.micro_claims.specs.declared.drift.IndexMove.{IndexMove}
pub use Rattle.micro_claims.specs.declared.drift.IndexMove.TheVariants.{On, To}
pub use Rattle.micro_claims.specs.declared.loop_place.LoopPlace.{LoopPlace}
pub use Rattle.micro_claims.specs.declared.loop_place.LoopPlace.TheVariants.{Head, Heads, After as AfterTurns}
pub use Rattle.micro_claims.specs.declared.named_row.NamedRow.{NamedRow}
pub use Rattle.micro_claims.specs.declared.shown.Shown.{Shown}
pub use Rattle.micro_claims.specs.declared.known_target.KnownTarget.{KnownTarget}
pub use Rattle.micro_claims.specs.declared.held.Held.{Held}
pub use Rattle.micro_claims.specs.declared.output_column.OutputColumn.{OutputColumn}
pub use Rattle.micro_claims.specs.declared.queued_rows.QueuedRows.{QueuedRows}
pub use Rattle.micro_claims.specs.declared.queued_rows.QueuedRows.TheVariants.{NoRows, SomeRows, SomeReads, AnyRows}
pub use Rattle.micro_claims.specs.declared.last_closer.LastCloser.{LastCloser}
pub use Rattle.micro_claims.specs.declared.cached_page.CachedPage.{CachedPage}
pub use Rattle.micro_claims.specs.declared.copies.Copies.{Copies}
pub use Rattle.micro_claims.specs.declared.known_lun.KnownLun.{KnownLun}
pub use Rattle.micro_claims.specs.declared.state.State.{State}
pub use Rattle.micro_claims.specs.declared.bounds.Bounds.{Bounds}

-- what may be shown: the status, the register
abbrev pub shows_status : Shown → Bool
shows_status w = has 1 w.0

abbrev pub shows_register : Shown → Bool
shows_register w = has 2 w.0

-- what may be held: a page, the parameter page, the identifier; in the wider profile the identity at 00h and that at 40h, the unique
-- identifier, and a feature
abbrev pub holds_page : Held → Bool
holds_page r = has 1 r.0

abbrev pub holds_parameters : Held → Bool
holds_parameters r = has 2 r.0

abbrev pub holds_identifier : Held → Bool
holds_identifier r = has 4 r.0

abbrev pub holds_identity : Held → Bool
holds_identity r = has 8 r.0

abbrev pub holds_jedec : Held → Bool
holds_jedec r = has 16 r.0

abbrev pub holds_unique_id : Held → Bool
holds_unique_id r = has 32 r.0

abbrev pub holds_feature : Held → Bool
holds_feature r = has 64 r.0

-- what the last closer may be: 30h, 31h, another or none
abbrev pub may_be_30 : LastCloser → Bool
may_be_30 c = has 1 c.0

abbrev pub may_be_31 : LastCloser → Bool
may_be_31 c = has 2 c.0

abbrev pub may_be_other : LastCloser → Bool
may_be_other c = has 4 c.0

-- what is read off a text before its first word
abbrev pub bounds_of : Microprogram → Bounds
bounds_of text = record { rows = text.rows; buffer = text.buffer; budget = text.budget; continues_cache_read = continues_cache_read text.words }

-- the last closer is 30h or another one or none, but not 31h
abbrev pub any_but_31 : LastCloser
any_but_31 = record { 0 = 5 }

abbrev pub other_closer : LastCloser
other_closer = record { 0 = 4 }

abbrev pub any_number : Span
any_number = record { lo = 0; hi = None; grown = None }

-- nothing is known of the page
abbrev pub not_cached : CachedPage
not_cached = record { index = any_number; page = any_number }

-- no page is held
abbrev pub no_copies : Copies
no_copies = record { even = no_planes; odd = no_planes; copying = false; keeps = false; holds = false }

-- pages may be held, and no program may copy one
abbrev pub uncopied : Copies
uncopied = record no_copies { holds = true }

-- nothing is open
abbrev pub closed : Option Shown → KnownTarget
closed shows = record { tail = Closed; column = None; named = None; shows = shows }

abbrev pub first_registers : Registers
first_registers =
    record { column = exactly 0; planes = just_plane 0; index = exactly 0; page = record { lo = 0; hi = 0 }; place = exactly 0; cost = exactly 0; polled = false }

-- before the first word: the registers are 0; nothing is open, the LUN is ready, its queue is empty, and it neither reads a cache nor programs one; and no more
abbrev pub first_state : State
first_state =
    record {
      registers = first_registers;
      target = closed None;
      lun = record { busy = false; register = None; column = None; queue = NoRows; last = any_but_31; cached = not_cached; held = no_planes; array = no_planes; copies = uncopied; programming = false };
    }
