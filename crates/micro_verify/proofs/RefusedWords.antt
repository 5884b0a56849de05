-- Each word of a straight text is exact, so that a refused one has its cause.
use Rattle.std.proofs.Common.{◌≡◌, ℕ, zero, suc, ◌*◌, ◌/◌, ◌≤◌, ◌==◌, Bool, true, false, not, cond, ltb, List, [], ◌∷◌, length, replicate, Option, Some, None, refl, sym, ap, ◌∙◌, subst, arith, take}
use Rattle.std.proofs.Math.Nat.{div-le_self, mul-le-mul_left, mul-le-mul_right}
use Rattle.nand_geometry.specs.declared.parts.Parts.{Parts}
use Rattle.nand_geometry.specs.Limits.{InLimits, indices, planes}
use Rattle.onfi_cycle.specs.declared.command.Command.{Command}
use Rattle.onfi_cycle.specs.declared.command.Command.TheVariants.{ReadCacheSequential}
use Rattle.onfi_cycle.specs.Command.{command}
use Rattle.micro_program.proofs.CacheReads.{its_byte}
use Rattle.micro_program.specs.Lines.{is_command_31, continues_cache_read, leads_on, all_lead_on}
use Rattle.micro_claims.specs.Against.{continues_unseen}
use Rattle.std.specs.List.{slice_get}
use Rattle.std.proofs.lemmas.Bool.{or_left, or_right, and_parts}
use Rattle.onfi_cycle.specs.Channel.{Channel}
use Rattle.micro_word.specs.declared.word.Word.{Word}
use Rattle.micro_word.specs.declared.word.Word.TheVariants.{End, Command as CommandWord, Address, Get, Put, Seek, Column, Plane, Row, RowAdd, Wait, Yield, ReadStatus}
use Rattle.micro_word.specs.Text.{Microprogram}
use Rattle.micro_claims.specs.declared.refusal.Fault.{Fault}
use Rattle.micro_claims.specs.declared.refusal.Reason.{Reason}
use Rattle.micro_claims.specs.declared.refusal.Reason.TheVariants.{NoWords, LoopUnpaired, LoopsTooDeep, BranchMisplaced, LastWordNotEnd}
use Rattle.micro_walk.specs.Verdicts.{is_of_shape}
use Rattle.micro_walk.specs.Shape.{is_unpaired, is_too_deep, leads_astray, first_where, fault_at, or_fault, unended, misshapen, shape_fault}
use Rattle.micro_walk.specs.Faults.{walked}
use Rattle.micro_claims.specs.State.{bounds_of}
use Rattle.micro_walk.proofs.Walking.{straight_fault}
use Rattle.micro_word.specs.declared.format.Format.{Format}
use Rattle.micro_word.specs.Word.{IsInRange}
use Rattle.micro_claims.specs.State.{first_state}
use Rattle.micro_claims.specs.Spans.{greatest_bound}
use Rattle.micro_verify.specs.Lazy.{lone_channel, lone_job, new_run, run_words}
use Rattle.micro_verify.specs.Cause.{no_end, AllInRange, RefusalsHaveCauses}
use Rattle.micro_verify.proofs.Lone.{IsAlone}
use Rattle.micro_verify.proofs.Causes.{IsFit, IsExact, AreExact, causes_among, first_lone, first_mirrors, end_exact}
use Rattle.micro_verify.proofs.WordsExact.{wait_exact, stat_exact}
use Rattle.micro_verify.proofs.SettingsExact.{seek_exact, column_exact, plane_exact, yield_exact}
use Rattle.micro_verify.proofs.IndexExact.{row_exact, rowadd_exact}
use Rattle.micro_verify.proofs.CommandsExact.{command_exact}
use Rattle.micro_verify.proofs.OutputsExact.{get_exact}
use Rattle.micro_verify.proofs.InputsExact.{put_exact}
use Rattle.micro_verify.proofs.AddressExact.{address_exact}

-- a command 31 of the text is seen in it
seen_31 : (text : Microprogram) (byte : ℕ) → (is_command_31 (CommandWord byte) ≡ true → continues_cache_read text.words ≡ true) → continues_unseen (bounds_of text) (command byte) ≡ false
seen_31 text byte seen = at (command byte) refl
  where
    at : (d : Command) → command byte ≡ d → continues_unseen (bounds_of text) d ≡ false
    at ReadCacheSequential e = ap not (seen (its_byte byte e))
    at _ e = refl

word_exact : (s : Channel) (text : Microprogram) (format : Format) (words : ℕ) → IsFit s text → (word : Word) → IsInRange format words word → (is_command_31 word ≡ true → continues_cache_read text.words ≡ true) → leads_on word ≡ true → IsExact s text word
word_exact s text format words k (End code) range seen h v r c few is m = end_exact s text v r c code is m
word_exact s text format words k Wait range seen h v r c few is m = wait_exact s text v r c k.alone k.one is m
word_exact s text format words k ReadStatus range seen h v r c few is m = stat_exact s text v r c k.alone k.one k.budget is m
word_exact s text format words k Yield range seen h v r c few is m = yield_exact s text v r c k.alone k.one is m
word_exact s text format words k (Seek place) range seen h v r c few is m = seek_exact s text v r c place k.alone is m
word_exact s text format words k (Column column) range seen h v r c few is m = column_exact s text v r c column range k.alone is m
word_exact s text format words k (Plane plane) range seen h v r c few is m = plane_exact s text v r c plane range k.alone is m
word_exact s text format words k (Row row) range seen h v r c few is m = row_exact s text v r c row range few k.alone is m
word_exact s text format words k (RowAdd rows) range seen h v r c few is m = rowadd_exact s text v r c rows range.1 few k.alone is m
word_exact s text format words k (CommandWord byte) range seen h v r c few is m = command_exact s text v r c byte k (seen_31 text byte seen) is m
word_exact s text format words k (Address from count) range seen h v r c few is m = address_exact s text v r c from count range.1 range.2 few k is m
word_exact s text format words k (Get len) range seen h v r c few is m = get_exact s text v r c len range.0 k is m
word_exact s text format words k (Put len) range seen h v r c few is m = put_exact s text v r c len range.0 k is m
word_exact s text format words k _ range seen h v r c few is m = cc

all_exact : (s : Channel) (text : Microprogram) (format : Format) (count : ℕ) → IsFit s text → (words : List Word) → AllInRange format count words → (continues_cache_read words ≡ true → continues_cache_read text.words ≡ true) → all_lead_on words ≡ true → AreExact s text words
all_exact s text format count k [] range seen h = tt
all_exact s text format count k (word ∷ words) range seen h =
    let both = and_parts (leads_on word) (all_lead_on words) h in
    (word_exact s text format count k word range.0 (λ e. seen (or_left (is_command_31 word) (continues_cache_read words) e)) both.0, all_exact s text format count k words range.1 (λ e. seen (or_right (is_command_31 word) (continues_cache_read words) e)) both.1)

length_replicate : (n x : ℕ) → length (replicate n x) ≡ n
length_replicate zero x = refl
length_replicate (suc n) x = ap suc (length_replicate n x)

-- the fault of a text of a straight shape is that of its words
pub word_fault : (shape walk : Option Fault) (fault : Fault) → (misshapen : (f : Fault) → shape ≡ Some f → is_of_shape f.reason ≡ true) → or_fault shape walk ≡ Some fault → is_of_shape fault.reason ≡ false → walk ≡ Some fault
word_fault None walk fault misshapen h of_word = h
word_fault (Some f) walk fault misshapen h of_word =
    let same : f ≡ fault = cc in
    let shape : is_of_shape fault.reason ≡ true = ap (λ (x : Fault). is_of_shape x.reason) (sym same) ∙ misshapen f refl in
    let both : true ≡ false = sym shape ∙ of_word in
    cc

-- a fault of the shape, if there is one
pub record OfShape (o : Option Fault) : Type 0 where
  pub is : (f : Fault) → o ≡ Some f → is_of_shape f.reason ≡ true

fault_at_shape : (reason : Reason) (o : Option ℕ) → is_of_shape reason ≡ true → OfShape (fault_at reason o)
fault_at_shape reason None h = record { is = λ f e. cc }
fault_at_shape reason (Some at) h =
    record { is = λ f e. let named : Fault = record { word = at; reason = reason } in let same : named ≡ f = cc in ap (λ (x : Fault). is_of_shape x.reason) (sym same) ∙ h }

or_shape : (a b : Option Fault) → OfShape a → OfShape b → OfShape (or_fault a b)
or_shape None b x y = y
or_shape (Some f) b x y = x

pub shape_is : (words : List Word) → OfShape (shape_fault words)
shape_is words = by (length words == 0)
  where
    first : Fault
    first = record { word = 0; reason = NoWords }

    by : (b : Bool) → OfShape (cond b (Some first) (misshapen words))
    by true = record { is = λ f e. let same : first ≡ f = cc in ap (λ (x : Fault). is_of_shape x.reason) (sym same) }
    by false =
        or_shape (fault_at LoopUnpaired (first_where (is_unpaired words) 0 words)) _ (fault_at_shape LoopUnpaired _ refl)
        (or_shape (fault_at LoopsTooDeep (first_where (is_too_deep words) 0 words)) _ (fault_at_shape LoopsTooDeep _ refl)
        (or_shape (fault_at BranchMisplaced (first_where (leads_astray words) 0 words)) _ (fault_at_shape BranchMisplaced _ refl)
        (fault_at_shape LastWordNotEnd (unended words) refl)))

few_rows : (g : Parts) → InLimits g → (rows : ℕ) → rows ≤ indices g → rows ≤ greatest_bound
few_rows g k rows h =
    let groups : g.blocks / planes g ≤ g.blocks = div-le_self g.blocks (planes g) in
    let pages = k.pages_most in
    let blocks = k.blocks_most in
    let most : g.blocks / planes g ≤ 65536 = omega (arith, groups, blocks) in
    let one : g.pages * (g.blocks / planes g) ≤ g.pages * 65536 = mul-le-mul_left g.pages most in
    let two : g.pages * 65536 ≤ 4096 * 65536 = mul-le-mul_right 65536 pages in
    omega (arith, h, one, two)

pub refusals_have_causes : RefusalsHaveCauses
refusals_have_causes g parameters text format fault whole straight h of_word =
    let s = lone_channel g parameters in
    let alone : IsAlone s = record { is_channel = record { limits = straight.limits; parameters = whole; pages = λ l p. length_replicate _ 0xff }; one = straight.one; base = straight.base; target = refl } in
    let one : ltb 1 g.luns ≡ false = rw straight.one refl in
    let limits = straight.limits in
    let fit : IsFit s text =
    record {
      alone = alone;
      one = one;
      base = straight.base;
      budget = let low = straight.budget in omega (arith, low);
      rows = few_rows g limits text.rows straight.rows;
      buffer = let low = straight.buffer in omega (arith, low);
      pages = let low = limits.pages_most in omega (arith, low);
      inside = straight.rows;
    } in
    let walks = word_fault (shape_fault text.words) (walked g (bounds_of text) 0 (Some first_state) text.words) fault (shape_is text.words).is (sym (straight_fault g (bounds_of text) text.words straight.leads_on) ∙ h) of_word in
    let q =
    causes_among s text text.words 0 first_state new_run (first_lone g) fault (all_exact s text format (length text.words) fit text.words straight.in_range (λ e. e) straight.leads_on) (let few = straight.few in omega (arith, few))
    (record { legal = refl; facts = refl; view = refl }) (first_mirrors g text straight.limits.pages_least) walks in
    let at : q.count ≡ fault.word = let i = q.is_at in omega (arith, i) in
    record {
      word = q.word;
      there = subst (λ (n : ℕ). slice_get text.words n ≡ Some q.word) at q.there;
      before = subst (λ (n : ℕ). no_end (take n text.words) ≡ true) at q.no_end;
      run = q.run;
      is_run = subst (λ (n : ℕ). run_words s (lone_job g text) (take n text.words) new_run ≡ Some q.run) at q.is_run;
      legal = q.legal;
      cause = q.cause;
    }
