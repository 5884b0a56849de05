-- Items that come to the dies of a channel, one after the other.
use Rattle.std.proofs.Common.{◌≡◌, ℕ, zero, suc, ◌+◌, ◌*◌, ◌<◌, ◌≤◌, ◌==◌, Bool, true, false, ◌&&◌, nat_lt, if◌then◌else◌, List, [], ◌∷◌, ◌++◌, Option, Some, None, refl, sym, ap, subst, ◌∙◌, arith, length, append_assoc}
use Rattle.std.specs.List.{slice_get, cons_option, slice_index_or}
use Rattle.std.proofs.lemmas.List.{append-nil}
use Rattle.std.proofs.lemmas.Bool.{and_parts}
use Rattle.std.proofs.lemmas.Bool.Decides.{nat_tests}
use Rattle.nand_geometry.specs.declared.parts.Parts.{Parts}
use Rattle.onfi_cycle.specs.declared.lun.Lun.{Lun}
use Rattle.onfi_cycle.specs.declared.latch.Latch.{Latch}
use Rattle.onfi_cycle.specs.declared.latch.Latch.TheVariants.{Off, Status, Data}
use Rattle.onfi_cycle.specs.declared.register.Register.{Register}
use Rattle.onfi_cycle.specs.declared.register.Register.TheVariants.{Empty, Page, ParameterPage, Identifier, Identity, JedecIdentity, UniqueId, Features}
use Rattle.onfi_cycle.specs.declared.item.Item.{Item}
use Rattle.onfi_cycle.specs.declared.item.Item.TheVariants.{Cyc}
use Rattle.onfi_cycle.specs.declared.item.Cycle.{Cycle}
use Rattle.onfi_cycle.specs.declared.item.Kind.{Kind}
use Rattle.onfi_cycle.specs.declared.item.Kind.TheVariants.{Cmd, Adr, Din, Dout}
use Rattle.onfi_cycle.specs.declared.page_address.PageAddress.{PageAddress}
use Rattle.onfi_cycle.specs.declared.forbidden.Forbidden.{Forbidden as Rule}
use Rattle.onfi_cycle.specs.Look.{look_after, look_at}
use Rattle.onfi_cycle.specs.Lun.{lun_view}
use Rattle.onfi_cycle.specs.Permitted.{broken}
use Rattle.onfi_cycle.specs.Channel.{Channel, cycle, bus_byte}
use Rattle.die_model.specs.Die.{Die}
use Rattle.target_bus.specs.Bus.{Traced, channel_of, StandFor, IsNext, is_output, number_of}
use Rattle.target_bus.proofs.Numbers.{numbered_number, number_below, slice_get_none}
use Rattle.trace_faults.specs.declared.broken_rule.BrokenRule.{BrokenRule}
use Rattle.trace_data.specs.declared.origin.Origin.{Origin}
use Rattle.trace_data.specs.declared.page_shown.PageShown.{PageShown}
use Rattle.trace_data.specs.declared.difference.Difference.{Difference}
use Rattle.trace_data.specs.Data.{Works, works_on, AreWorks, opening_of, origin_by, shown_of, shown_as, or_else, page_shown_from, page_shown, origin, origin_in, ended_in, told_of, compared, compared_with, difference, given, cycle_given, output_given, if_permitted, differences, first_broken, come, Stands, HasCome, TellsItem, TellsItems, AreGoing, IsJudged}
use Rattle.trace_data.proofs.Steps.{stay_at_output, stay_at_input}

-- ---- an item comes

kind_given : (s : Channel) (past : List Item) (ce byte : ℕ) (kind : Kind) → is_output kind ≡ false → cycle_given s past ce kind byte ≡ cycle ce kind byte
kind_given s past ce byte Cmd h = refl
kind_given s past ce byte Adr h = refl
kind_given s past ce byte Din h = refl
kind_given s past ce byte Dout h = cc

pub other_given : (s : Channel) (past : List Item) (c : Cycle) → is_output c.kind ≡ false → given s past (Cyc c) ≡ Cyc c
other_given s past c h = kind_given s past c.ce c.byte c.kind h

pub output_is_given : (s : Channel) (past : List Item) (ce seen byte : ℕ) → bus_byte s past ce ≡ Some byte → given s past (cycle ce Dout seen) ≡ cycle ce Dout byte
output_is_given s past ce seen byte e = ap (output_given ce seen) e

pub came : (old new : Traced) (i j : Item) → broken old.geometry old.targets old.past i ≡ None → given (channel_of old) old.past i ≡ j → IsNext old new j → HasCome old new i
came old new i j permitted is next = record { permitted = permitted; channel = next.channel; past = next.past ∙ ap (λ (x : Item). x ∷ old.past) (sym is) }

pub stands_on : (old new : Traced) (past : List Item) (all later : List Works) → Stands old all → channel_of new ≡ channel_of old → new.past ≡ past
    → length later ≡ length all → AreWorks old.geometry past later → Stands new later
stands_on old new past all later stands channel is count are =
    record {
      count = count ∙ (stands.count ∙ sym (ap (λ (s : Channel). s.targets * s.geometry.luns) channel));
      few = subst (λ (n : ℕ). n ≤ 16) (sym count) stands.few;
      works = subst (λ (s : Channel). AreWorks s.geometry new.past later) (sym channel) (subst (λ (p : List Item). AreWorks old.geometry p later) (sym is) are);
    }

pub other_stands : (old new : Traced) (i : Item) (all later : List Works) → Stands old all → IsNext old new i → length later ≡ length all → AreWorks old.geometry (i ∷ old.past) later → Stands new later
other_stands old new i all later stands next count are = stands_on old new (i ∷ old.past) all later stands next.channel next.past count are

-- ---- what an output gives

shown_lun : (l : Lun) (latch : Latch) (register : Register) (column : Option ℕ) (x : PageShown) → shown_as l latch register column ≡ Some x → x.lun ≡ l
shown_lun l Off register column x h = cc
shown_lun l Status register column x h = cc
shown_lun l Data Empty column x h = cc
shown_lun l Data ParameterPage column x h = cc
shown_lun l Data Identifier column x h = cc
shown_lun l Data Identity column x h = cc
shown_lun l Data JedecIdentity column x h = cc
shown_lun l Data UniqueId column x h = cc
shown_lun l Data (Features address) column x h = cc
shown_lun l Data (Page p) None x h = cc
shown_lun l Data (Page p) (Some column) x h = sym (ap (λ (o : Option PageShown). lun_in o) h)
  where
    lun_in : Option PageShown → Lun
    lun_in None = l
    lun_in (Some y) = y.lun

-- a LUN is there
record IsThere (g : Parts) (targets : ℕ) (l : Lun) : Type 0 where
  target : l.ce < targets
  lun : l.lun < g.luns

shown_is_there : (g : Parts) (n : ℕ) (past : List Item) (l : Lun) (x : PageShown) → shown_of l (look_after g n past l) ≡ Some x → IsThere g n x.lun
shown_is_there g n past l x h = at (nat_lt l.ce n && nat_lt l.lun g.luns) refl h
  where
    at : (b : Bool) → (nat_lt l.ce n && nat_lt l.lun g.luns) ≡ b → shown_of l (if b then Some (look_at (lun_view g past l)) else None) ≡ Some x → IsThere g n x.lun
    at false q e = cc
    at true q e =
        let look = look_at (lun_view g past l) in
        let tests = and_parts (nat_lt l.ce n) (nat_lt l.lun g.luns) q in
        let here : l.ce < n = grind (arith, nat_tests, tests.0) in
        let low : l.lun < g.luns = grind (arith, nat_tests, tests.1) in
        subst (IsThere g n) (sym (shown_lun l look.latch look.register look.column x e)) (record { target = here; lun = low })

shown_there : (g : Parts) (n : ℕ) (past : List Item) (ce count m : ℕ) (x : PageShown) → page_shown_from g n past ce count m ≡ Some x → IsThere g n x.lun
shown_there g n past ce zero m x h = cc
shown_there g n past ce (suc count) m x h =
    at (shown_of (record { ce = ce; lun = m }) (look_after g n past (record { ce = ce; lun = m }))) refl h (λ e. shown_there g n past ce count (m + 1) x e)
  where
    at : (o : Option PageShown) → shown_of (record { ce = ce; lun = m }) (look_after g n past (record { ce = ce; lun = m })) ≡ o
        → or_else o (page_shown_from g n past ce count (m + 1)) ≡ Some x → (page_shown_from g n past ce count (m + 1) ≡ Some x → IsThere g n x.lun) → IsThere g n x.lun
    at None q e later = later e
    at (Some y) q e later = shown_is_there g n past (record { ce = ce; lun = m }) x (q ∙ e)

compared_same : (f h : Lun → PageAddress → Origin) (n : ℕ) (shown : Option PageShown) (seen expected : ℕ)
    → ((x : PageShown) → shown ≡ Some x → f x.lun x.page ≡ h x.lun x.page) → compared f n shown seen expected ≡ compared h n shown seen expected
compared_same f h n None seen expected same = refl
compared_same f h n (Some x) seen expected same =
    ap (λ (o : Origin). if seen == expected then None else told_of (record { item = n; shown = x; seen = seen; expected = expected; origin = o })) (same x refl)

origin_same : (b : Traced) (all : List Works) (known : List Bool) (l : Lun) (p : PageAddress) → Stands b all → IsThere b.geometry b.targets l
    → origin_in b.geometry all known l p ≡ origin b.geometry known b.past l p
origin_same b all known l p stands there = at (slice_get all k) refl
  where
    k : ℕ
    k = number_of b.geometry l

    at : (o : Option Works) → slice_get all k ≡ o → origin_in b.geometry all known l p ≡ origin b.geometry known b.past l p
    at None q =
        let past = slice_get_none all k q in
        let low = number_below b.geometry b.targets l there.target there.lun in
        absurd (omega (arith, past, low, stands.count))
    at (Some w) q =
        let is = stands.works k w q ∙ ap (works_on b.geometry b.past) (numbered_number b.geometry l there.lun) in
        ap (λ (o : Option Works). origin_by (ended_in o) p (opening_of (slice_index_or known k false))) q
        ∙ ap (λ (x : Works). origin_by x.ended p (opening_of (slice_index_or known k false))) is

pub output_told : (b : Traced) (all : List Works) (known : List Bool) (ce seen expected n : ℕ) → Stands b all → n ≡ length b.past
    → bus_byte (channel_of b) b.past ce ≡ Some expected
    → compared (origin_in b.geometry all known) n (page_shown b.geometry b.targets b.past ce) seen expected ≡ difference (channel_of b) known b.past (cycle ce Dout seen)
output_told b all known ce seen expected n stands number byte =
    let shown = page_shown b.geometry b.targets b.past ce in
    compared_same (origin_in b.geometry all known) (origin b.geometry known b.past) n shown seen expected
    (λ x is. origin_same b all known x.lun x.page stands (shown_there b.geometry b.targets b.past ce b.geometry.luns 0 x is))
    ∙ (ap (λ (m : ℕ). compared (origin b.geometry known b.past) m shown seen expected) number
    ∙ ap (compared_with (origin b.geometry known b.past) (length b.past) shown seen) (sym byte))

-- ---- items come one after the other

pub input_stands : (old new : Traced) (all : List Works) (ce byte : ℕ) → Stands old all → IsNext old new (cycle ce Din byte) → Stands new all
input_stands old new all ce byte stands next = stands_on old new (cycle ce Din byte ∷ old.past) all all stands next.channel next.past refl (stay_at_input old.geometry old.past ce byte all stands.works)

pub output_stands : (old new : Traced) (all : List Works) (ce byte : ℕ) → Stands old all → IsNext old new (cycle ce Dout byte) → Stands new all
output_stands old new all ce byte stands next = stands_on old new (cycle ce Dout byte ∷ old.past) all all stands next.channel next.past refl (stay_at_output old.geometry old.past ce byte all stands.works)

pub goes_first : (known : List Bool) (b : Traced) (told : List Difference) (items : List Item) (all : List Works) → Stands b all → AreGoing known b b told told items items all
goes_first known b told items all stands = record { stands = stands; told_is = refl; stopped_is = refl; channel = refl; past = refl }

cons_rest : (d : Option Difference) (rest : List Difference) → cons_option d [] ++ rest ≡ cons_option d rest
cons_rest None rest = refl
cons_rest (Some d) rest = refl

pub goes_on : (known : List Bool) (old mid new : Traced) (told now later : List Difference) (items rest : List Item) (i : Item) (all after : List Works)
    → AreGoing known old mid told now items (i ∷ rest) all → TellsItem known mid new now later i after None → AreGoing known old new told later items rest after
goes_on known old mid new told now later items rest i all after going tells =
    let s = channel_of old in
    let permitted : broken s.geometry s.targets mid.past i ≡ None = subst (λ (c : Channel). broken c.geometry c.targets mid.past i ≡ None) going.channel tells.0.permitted in
    let past : new.past ≡ given s mid.past i ∷ mid.past = tells.0.past ∙ ap (λ (c : Channel). given c mid.past i ∷ mid.past) going.channel in
    let differs : difference (channel_of mid) known mid.past i ≡ difference s known mid.past i = ap (λ (c : Channel). difference c known mid.past i) going.channel in
    let d = difference s known mid.past i in
    let more = differences s known new.past rest in
    record {
      stands = tells.2;
      told_is =
          ap (λ (ds : List Difference). ds ++ more) (tells.1 ∙ ap (λ (x : Option Difference). now ++ cons_option x []) differs)
          ∙ (append_assoc now (cons_option d []) more
          ∙ (ap (λ (ds : List Difference). now ++ ds) (cons_rest d more ∙ (ap (λ (p : List Item). cons_option d (differences s known p rest)) past
          ∙ sym (ap (λ (o : Option Rule). if_permitted o (cons_option d (differences s known (given s mid.past i ∷ mid.past) rest)) (λ rule. [])) permitted)))
          ∙ going.told_is));
      stopped_is =
          ap (λ (p : List Item). first_broken s p rest) past
          ∙ (sym (ap (λ (o : Option Rule). if_permitted o (first_broken s (given s mid.past i ∷ mid.past) rest) (λ rule. Some (record { item = length mid.past; rule = rule }))) permitted)
          ∙ going.stopped_is);
      channel = tells.0.channel ∙ going.channel;
      past =
          ap (λ (p : List Item). come s p rest) past
          ∙ (sym (ap (λ (o : Option Rule). if_permitted o (come s (given s mid.past i ∷ mid.past) rest) (λ rule. mid.past)) permitted)
          ∙ going.past);
    }

pub goes_no_further : (known : List Bool) (old mid new : Traced) (told now later : List Difference) (items rest : List Item) (i : Item) (all after : List Works) (rule : Rule) (n : ℕ)
    → AreGoing known old mid told now items (i ∷ rest) all → TellsItem known mid new now later i after (Some rule) → n ≡ length new.past
    → TellsItems known old new told later items (Some (record { item = n; rule = rule }))
goes_no_further known old mid new told now later items rest i all after rule n going tells number =
    let s = channel_of old in
    let stops : broken s.geometry s.targets mid.past i ≡ Some rule = subst (λ (c : Channel). broken c.geometry c.targets mid.past i ≡ Some rule) going.channel tells.0 in
    let count : n ≡ length mid.past = number ∙ ap (λ (b : Traced). length b.past) tells.1 in
    record {
      told_is =
          tells.2 ∙ (sym (append-nil now)
          ∙ (sym (ap (λ (o : Option Rule). now ++ if_permitted o (cons_option (difference s known mid.past i) (differences s known (given s mid.past i ∷ mid.past) rest)) (λ rule. [])) stops)
          ∙ going.told_is));
      stopped_is =
          ap (λ (m : ℕ). Some (record { item = m; rule = rule })) count
          ∙ (sym (ap (λ (o : Option Rule). if_permitted o (first_broken s (given s mid.past i ∷ mid.past) rest) (λ rule. Some (record { item = length mid.past; rule = rule }))) stops)
          ∙ going.stopped_is);
      channel = ap channel_of tells.1 ∙ going.channel;
      past =
          ap (λ (b : Traced). b.past) tells.1
          ∙ (sym (ap (λ (o : Option Rule). if_permitted o (come s (given s mid.past i ∷ mid.past) rest) (λ rule. mid.past)) stops)
          ∙ going.past);
    }

pub goes_to_end : (known : List Bool) (old new : Traced) (told later : List Difference) (items : List Item) (all : List Works)
    → AreGoing known old new told later items [] all → TellsItems known old new told later items None
goes_to_end known old new told later items all going =
    record { told_is = sym (append-nil later) ∙ going.told_is; stopped_is = going.stopped_is; channel = going.channel; past = going.past }

pub judged : (b new : Traced) (known : List Bool) (before told : List Difference) (items : List Item) (stopped : Option BrokenRule) (dies : List Die)
    → b.past ≡ [] → before ≡ [] → TellsItems known b new before told items stopped → length dies ≡ new.targets * new.geometry.luns
    → StandFor (channel_of new) new.past dies → IsJudged (channel_of b) known items told stopped dies
judged b new known before told items stopped dies fresh none tells count stand =
    let s = channel_of b in
    record {
      told_is = tells.told_is ∙ (ap (λ (ds : List Difference). ds ++ differences s known b.past items) none ∙ ap (λ (p : List Item). differences s known p items) fresh);
      stopped_is = tells.stopped_is ∙ ap (λ (p : List Item). first_broken s p items) fresh;
      stand =
          subst (λ (p : List Item). StandFor s p dies) (tells.past ∙ ap (λ (p : List Item). come s p items) fresh)
          (subst (λ (c : Channel). StandFor c new.past dies) tells.channel stand);
      count = count ∙ ap (λ (c : Channel). c.targets * c.geometry.luns) tells.channel;
    }
