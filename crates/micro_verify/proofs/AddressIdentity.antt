-- The one address of 90h and ECh: how it is judged, and where it stops.
use Rattle.std.proofs.Common.{◌≡◌, ℕ, zero, suc, ◌+◌, ◌/◌, ◌%◌, ◌≤◌, ◌==◌, Bool, true, false, ◌&&◌, ◌||◌, not, nat_le, List, [], ◌∷◌, Some, None, refl, ap, ◌∙◌, arith, length, take, drop, eqb-true}
use Rattle.std.proofs.lemmas.Bool.{not-true}
use Rattle.nand_geometry.specs.declared.parts.Parts.{Parts}
use Rattle.nand_geometry.specs.Optional.{is_wide}
use Rattle.onfi_cycle.specs.declared.command.Command.{Command}
use Rattle.onfi_cycle.specs.declared.command.Command.TheVariants.{ReadId, ReadParameterPage, ReadUniqueId, GetFeatures, SetFeatures}
use Rattle.onfi_cycle.specs.declared.forbidden.Forbidden.TheVariants.{AddressMisplaced}
use Rattle.onfi_cycle.specs.declared.target_cycle.TargetCycle.TheVariants.{AddressCycle}
use Rattle.onfi_cycle.specs.declared.tail_facts.TailFacts.{TailFacts}
use Rattle.onfi_cycle.specs.LunView.{LunView}
use Rattle.onfi_cycle.specs.Command.{reads_identity}
use Rattle.onfi_cycle.specs.Rules.{breaks_command_unknown, breaks_sequence_open, breaks_several_luns, breaks_no_column_to_change, breaks_command_misplaced, breaks_address_misplaced}
use Rattle.onfi_cycle.specs.Channel.{Channel}
use Rattle.micro_word.specs.declared.word.Word.TheVariants.{Address as AddressWord}
use Rattle.micro_word.specs.Text.{Microprogram}
use Rattle.micro_claims.specs.Against.{byte_of_column, takes_identity}
use Rattle.micro_program.specs.Moves.{address}
use Rattle.micro_program.specs.Program.{column_now}
use Rattle.micro_claims.proofs.Fits.{Address, Opened, bytes_of, opener_facts, facts_behind}
use Rattle.micro_verify.specs.Lazy.{lone_job, Run}
use Rattle.micro_verify.specs.Cause.{WordStops, is_of_cycle_forbidden}
use Rattle.micro_verify.proofs.Lone.{Lone, IsAlone, IsLone, lone_behind, judged}
use Rattle.micro_verify.proofs.AddressesJudged.{plain_judged}
use Rattle.micro_verify.proofs.AddressStops.{address_stops, unwanted_judged}
use Rattle.micro_verify.proofs.Mirrors.{opens_in_base}

-- 1. one cycle

-- behind the command
abbrev pub asked : Command → LunView → Lone
asked o view = record { facts = opener_facts o; view = view }

-- the openers of programs that take the address of what they read
abbrev pub asks : Command → Bool
asks ReadId = true
asks ReadParameterPage = true
asks _ = false

pub asks_there : (o : Command) → opens_in_base o ≡ true → reads_identity o ≡ true → asks o ≡ true
asks_there ReadId b h = refl
asks_there ReadParameterPage b h = refl
asks_there ReadUniqueId b h = cc
asks_there GetFeatures b h = cc
asks_there SetFeatures b h = cc
asks_there _ b h = cc

-- the address bytes of the base profile
abbrev pub base_identity : Command → ℕ → Bool
base_identity ReadId byte = byte == 0x20
base_identity ReadParameterPage byte = byte == 0x00
base_identity _ byte = false

pub base_takes : (g : Parts) (o : Command) (byte : ℕ) → is_wide g.optional ≡ false → asks o ≡ true → takes_identity g o byte ≡ base_identity o byte
base_takes g ReadId byte base h = ap (λ (w : Bool). byte == 0x20 || (w && (byte == 0x00 || byte == 0x40))) base ∙ or_none (byte == 0x20)
  where
    or_none : (b : Bool) → (b || false) ≡ b
    or_none true = refl
    or_none false = refl
base_takes g ReadParameterPage byte base h = refl
base_takes g _ byte base h = cc

pub none_yet : (o : Command) (n : ℕ) (a : Address) (t : TailFacts) → asks o ≡ true → Opened o n a t → n ≡ 0
none_yet ReadId n a t reads is = eqb-true n 0 is.place
none_yet ReadParameterPage n a t reads is = eqb-true n 0 is.place
none_yet _ n a t reads is = cc

pub asked_is : (o : Command) (n : ℕ) (a : Address) (c : Lone) → asks o ≡ true → Opened o n a c.facts → c ≡ asked o c.view
asked_is o n a c reads is = λ i. record { facts = facts_are i; view = c.view }
  where
    facts_are : c.facts ≡ opener_facts o
    facts_are = is.facts ∙ ap (λ (m : ℕ). facts_behind (opener_facts o) (take m (bytes_of o a))) (none_yet o n a c.facts reads is)

pub identity_judged : (g : Parts) (o : Command) (view : LunView) (byte : ℕ) → asks o ≡ true → base_identity o byte ≡ true → judged g (asked o view) (AddressCycle byte) ≡ None
identity_judged g ReadId view byte reads takes = plain_judged g (asked ReadId view) byte (rw takes refl) refl refl (ap not takes) (λ p q. refl)
identity_judged g ReadParameterPage view byte reads takes = plain_judged g (asked ReadParameterPage view) byte (rw takes refl) refl refl refl (λ p q. refl)
identity_judged g _ view byte reads takes = cc

-- the other addresses of 90h are the wider profile's
other_id : (g : Parts) (view : LunView) (byte : ℕ) → is_wide g.optional ≡ false → (byte == 0x20) ≡ false → judged g (asked ReadId view) (AddressCycle byte) ≡ Some AddressMisplaced
unfolding breaks_command_unknown breaks_sequence_open breaks_several_luns breaks_no_column_to_change breaks_command_misplaced breaks_address_misplaced
other_id g view byte base other = at (byte == 0x00 || byte == 0x40) refl
  where
    at : (b : Bool) → (byte == 0x00 || byte == 0x40) ≡ b → judged g (asked ReadId view) (AddressCycle byte) ≡ Some AddressMisplaced
    at true e = rw (other, e) refl
    at false e = rw (other, e) refl

other_byte : (g : Parts) (o : Command) (view : LunView) (byte : ℕ) → is_wide g.optional ≡ false → asks o ≡ true → base_identity o byte ≡ false → judged g (asked o view) (AddressCycle byte) ≡ Some AddressMisplaced
other_byte g ReadId view byte base reads takes = other_id g view byte base takes
other_byte g ReadParameterPage view byte base reads takes = unwanted_judged g (asked ReadParameterPage view) byte (rw takes refl)
other_byte g _ view byte base reads takes = cc

-- a second one isn't wanted
second_byte : (g : Parts) (o : Command) (view : LunView) (first byte : ℕ) → asks o ≡ true → judged g (lone_behind g (AddressCycle first) (asked o view)) (AddressCycle byte) ≡ Some AddressMisplaced
second_byte g ReadId view first byte reads = unwanted_judged g (lone_behind g (AddressCycle first) (asked ReadId view)) byte refl
second_byte g ReadParameterPage view first byte reads = unwanted_judged g (lone_behind g (AddressCycle first) (asked ReadParameterPage view)) byte refl
second_byte g _ view first byte reads = cc

-- 2. where it stops

-- among the bytes of an address that begins with the column it is another, or one of several
pub identity_stops : (s : Channel) (text : Microprogram) (r : Run) (c : Lone) (from count : ℕ) (o : Command) → is_wide s.geometry.optional ≡ false → IsAlone s → IsLone s r.past c → c ≡ asked o c.view → asks o ≡ true → 1 ≤ count → from + count ≤ 5 → from ≤ 1 → (r1 r2 r3 : ℕ) → address s.geometry (lone_job s.geometry text) r.done from count ≡ Some (take count (drop from (column_now r.done % 256 ∷ (column_now r.done / 256 % 256 ∷ (r1 ∷ (r2 ∷ (r3 ∷ []))))))) → (not (count == 1) || not (nat_le from 1 && base_identity o (byte_of_column from (column_now r.done)))) ≡ true → WordStops s (lone_job s.geometry text) r (AddressWord from count) is_of_cycle_forbidden
identity_stops s text r c from count o base k is here reads some few first r1 r2 r3 bytes refused = by from count some few first refused bytes
  where
    g : Parts
    g = s.geometry

    b0 : ℕ
    b0 = column_now r.done % 256

    b1 : ℕ
    b1 = column_now r.done / 256 % 256

    -- at its first byte
    at_once : (from count : ℕ) (xs : List ℕ) (byte : ℕ) → address g (lone_job g text) r.done from count ≡ Some (take count (byte ∷ xs)) → 1 ≤ count → count ≤ length (byte ∷ xs) → base_identity o byte ≡ false → WordStops s (lone_job g text) r (AddressWord from count) is_of_cycle_forbidden
    at_once from count xs byte bytes some few wrong =
        address_stops s text r c from count 0 (byte ∷ xs) is_of_cycle_forbidden bytes (omega (arith, some)) few k is tt AddressMisplaced (ap (λ (x : Lone). judged g x (AddressCycle byte)) here ∙ other_byte g o c.view byte base reads wrong) refl

    -- at its first byte, or at its second one
    at_two : (from n : ℕ) (xs : List ℕ) (byte next : ℕ) → address g (lone_job g text) r.done from (suc (suc n)) ≡ Some (take (suc (suc n)) (byte ∷ (next ∷ xs))) → suc (suc n) ≤ length (byte ∷ (next ∷ xs)) → (b : Bool) → base_identity o byte ≡ b → WordStops s (lone_job g text) r (AddressWord from (suc (suc n))) is_of_cycle_forbidden
    at_two from n xs byte next bytes few false e = at_once from (suc (suc n)) (next ∷ xs) byte bytes (omega arith) few e
    at_two from n xs byte next bytes few true e =
        address_stops s text r c from (suc (suc n)) 1 (byte ∷ (next ∷ xs)) is_of_cycle_forbidden bytes (omega arith) few k is
        (ap (λ (x : Lone). judged g x (AddressCycle byte)) here ∙ identity_judged g o c.view byte reads e, tt) AddressMisplaced
        (ap (λ (x : Lone). judged g (lone_behind g (AddressCycle byte) x) (AddressCycle next)) here ∙ second_byte g o c.view byte next reads) refl

    by : (from count : ℕ) → 1 ≤ count → from + count ≤ 5 → from ≤ 1 → (not (count == 1) || not (nat_le from 1 && base_identity o (byte_of_column from (column_now r.done)))) ≡ true → address g (lone_job g text) r.done from count ≡ Some (take count (drop from (b0 ∷ (b1 ∷ (r1 ∷ (r2 ∷ (r3 ∷ []))))))) → WordStops s (lone_job g text) r (AddressWord from count) is_of_cycle_forbidden
    by from zero some few first refused bytes = absurd (omega (arith, some))
    by zero (suc zero) some few first refused bytes = at_once 0 1 (b1 ∷ (r1 ∷ (r2 ∷ (r3 ∷ [])))) b0 bytes some (omega arith) (not-true _ refused)
    by (suc zero) (suc zero) some few first refused bytes = at_once 1 1 (r1 ∷ (r2 ∷ (r3 ∷ []))) b1 bytes some (omega arith) (not-true _ refused)
    by zero (suc (suc n)) some few first refused bytes = at_two 0 n (r1 ∷ (r2 ∷ (r3 ∷ []))) b0 b1 bytes (omega (arith, few)) _ refl
    by (suc zero) (suc (suc n)) some few first refused bytes = at_two 1 n (r2 ∷ (r3 ∷ [])) b1 r1 bytes (omega (arith, few)) _ refl
    by (suc (suc m)) (suc n) some few first refused bytes = absurd (omega (arith, first))
