use Rattle.writer.proofs.Judging.{size-right}
use Rattle.writer.specs.Writing.{wrong_writer, wrong_size, wrong_packets, wrong_extra, no_room, expansion_of, extra_of}
use Rattle.settings.specs.Settings.{broken_rules, wrong_values}
use Rattle.expansion.specs.declared.Fields.{Fields}
use Rattle.expansion.specs.Writing.{expansion_bytes}
use Rattle.refusal.specs.Refusal.{any_of}
use mathlib.Core.Bool.{true, false}
use native.Mathlib.Omega.{arith}
use mathlib.Core.Path.{◌≡◌, ap, sym, ◌∙◌}
use Prim.Native.Nat.{ℕ, ◌+◌}
use lib.ListN.{length}
use borrow.Author.Rules.{rules}
use Rattle.writer.proofs.refusal.Statement.{statement}
use Rattle.writer.proofs.refusal.Tie as tie

-- the rows that do not apply
not1 : (e : tie.Else-wrong_state) → let a = e.before.before.before.before.before.args in any_of (wrong_writer a.m a.w) ≡ false
not1 e = let a = e.before.before.before.before.before.args in sym e.before.wrong_state.ensures ∙ e.if-wrong_state.false

not2 : (e : tie.Else-wrong_size) → let a = e.before.before.before.before.before.before.before.args in any_of (wrong_size a.m a.size) ≡ false
not2 e = let a = e.before.before.before.before.before.before.before.args in sym e.before.wrong_size.ensures ∙ e.if-wrong_size.false

not3 : (e : tie.Else-breaks_rules) → let a = e.before.before.before.before.before.before.before.before.before.args in any_of (broken_rules a.s a.size) ≡ false
not3 e = let a = e.before.before.before.before.before.before.before.before.before.args in sym e.before.breaks_rules.ensures ∙ e.if-breaks_rules.false

not4 : (e : tie.Else-wrong_values) → let a = e.before.before.before.before.before.before.before.before.before.before.before.args in any_of (wrong_values a.w.stream a.s) ≡ false
not4 e = let a = e.before.before.before.before.before.before.before.before.before.before.before.args in sym e.before.wrong_values.ensures ∙ e.if-wrong_values.false

not5 : (e : tie.Else-wrong_packets) → let a = e.before.before.before.before.before.before.before.before.before.before.before.before.before.args in any_of (wrong_packets a.w.sent a.lengths.now (length a.bytes.now)) ≡ false
not5 e = let a = e.before.before.before.before.before.before.before.before.before.before.before.before.before.args in sym e.before.wrong_packets.ensures ∙ e.if-wrong_packets.false

x-length : (e : tie.After-expansion_bytes-expansion) → let a = e.before.before.before.before.before.before.before.before.before.before.before.before.before.before.before.args in e.expansion_bytes-expansion.result.length ≡ length (expansion_of a.s a.psd.now a.lengths.now a.bytes.now a.size)
x-length e = e.expansion_bytes-expansion.ensures.0.0 ∙ ap (λ (y : Fields). length (expansion_bytes y)) e.before.fields_for-fields.ensures

not6 : (e : tie.Else-wrong_extra) → let a = e.before.before.before.before.before.before.before.before.before.before.before.before.before.before.before.before.before.args in any_of (wrong_extra a.m (length (expansion_of a.s a.psd.now a.lengths.now a.bytes.now a.size)) (length a.psd.now)) ≡ false
not6 e = let a = e.before.before.before.before.before.before.before.before.before.before.before.before.before.before.before.before.before.args in ap (λ (k : ℕ). any_of (wrong_extra a.m k (length a.psd.now))) (sym (x-length e.before.before)) ∙ sym e.before.wrong_extra.ensures.0 ∙ e.if-wrong_extra.false

returns : tie.Need-returns-then-wrong_state
returns c =
    let a = c.before.before.before.before.before.args in
    let t : any_of (wrong_writer a.m a.w) ≡ true = sym c.before.wrong_state.ensures ∙ c.if-wrong_state.true in
    rw (t)

returns-2 : tie.Need-returns-then-wrong_size
returns-2 c =
    let a = c.before.before.before.before.before.before.before.args in
    let t : any_of (wrong_size a.m a.size) ≡ true = sym c.before.wrong_size.ensures ∙ c.if-wrong_size.true in
    rw (not1 c.before.before, t)

returns-3 : tie.Need-returns-then-breaks_rules
returns-3 c =
    let a = c.before.before.before.before.before.before.before.before.before.args in
    let t : any_of (broken_rules a.s a.size) ≡ true = sym c.before.breaks_rules.ensures ∙ c.if-breaks_rules.true in
    rw (not1 c.before.before.before.before, not2 c.before.before, t)

returns-4 : tie.Need-returns-then-wrong_values
returns-4 c =
    let a = c.before.before.before.before.before.before.before.before.before.before.before.args in
    let t : any_of (wrong_values a.w.stream a.s) ≡ true = sym c.before.wrong_values.ensures ∙ c.if-wrong_values.true in
    rw (not1 c.before.before.before.before.before.before, not2 c.before.before.before.before, not3 c.before.before, t)

returns-5 : tie.Need-returns-then-wrong_packets
returns-5 c =
    let a = c.before.before.before.before.before.before.before.before.before.before.before.before.before.args in
    let t : any_of (wrong_packets a.w.sent a.lengths.now (length a.bytes.now)) ≡ true = sym c.before.wrong_packets.ensures ∙ c.if-wrong_packets.true in
    rw (not1 c.before.before.before.before.before.before.before.before, not2 c.before.before.before.before.before.before, not3 c.before.before.before.before, not4 c.before.before, t)

cast-fields-for : tie.Need-overflow_cast-size
cast-fields-for c = let a = c.before.before.before.before.before.before.before.before.before.before.before.before.before.args in let h = size-right a.m a.size (not2 c.before.before.before.before.before.before) in omega (arith, h.0, h.1)

fields-for-requires : tie.Need-fields_for-fields-requires
fields-for-requires c κs = let a = c.before.before.before.before.before.before.before.before.before.before.before.before.before.args in let h = size-right a.m a.size (not2 c.before.before.before.before.before.before) in omega (arith, h.0, h.1)

returns-6 : tie.Need-returns-then-wrong_extra
returns-6 c =
    let a = c.before.before.before.before.before.before.before.before.before.before.before.before.before.before.before.before.before.args in
    let t : any_of (wrong_extra a.m (length (expansion_of a.s a.psd.now a.lengths.now a.bytes.now a.size)) (length a.psd.now)) ≡ true = ap (λ (k : ℕ). any_of (wrong_extra a.m k (length a.psd.now))) (sym (x-length c.before.before)) ∙ sym c.before.wrong_extra.ensures.0 ∙ c.if-wrong_extra.true in
    rw (not1 c.before.before.before.before.before.before.before.before.before.before.before.before, not2 c.before.before.before.before.before.before.before.before.before.before, not3 c.before.before.before.before.before.before.before.before, not4 c.before.before.before.before.before.before, not5 c.before.before.before.before, t)

add-no-room : tie.Need-overflow_add-expansion
add-no-room c = let h = c.before.before.wrong_extra.ensures.1 c.before.if-wrong_extra.false in omega (arith, h)

no-room-requires : tie.Need-no_room-requires
no-room-requires c κs = let h = c.before.before.wrong_extra.ensures.1 c.before.if-wrong_extra.false in omega (arith, h)

returns-7 : tie.Need-returns-then-no_room
returns-7 c =
    let a = c.before.before.before.before.before.before.before.before.before.before.before.before.before.before.before.before.before.before.before.before.args in
    let t : no_room a.m (extra_of a.s a.psd.now a.lengths.now a.bytes.now a.size) a.size a.lengths.now ≡ true = ap (λ (k : ℕ). no_room a.m (k + length a.psd.now) a.size a.lengths.now) (sym (x-length c.before.before.before.before.before)) ∙ sym c.before.no_room.ensures ∙ c.if-no_room.true in
    rw (not1 c.before.before.before.before.before.before.before.before.before.before.before.before.before.before.before, not2 c.before.before.before.before.before.before.before.before.before.before.before.before.before, not3 c.before.before.before.before.before.before.before.before.before.before.before, not4 c.before.before.before.before.before.before.before.before.before, not5 c.before.before.before.before.before.before.before, not6 c.before.before.before, t)

returns-8 : tie.Need-returns
returns-8 c =
    let a = c.before.before.before.before.before.before.before.before.before.before.before.before.before.before.before.before.before.before.before.before.args in
    let t : no_room a.m (extra_of a.s a.psd.now a.lengths.now a.bytes.now a.size) a.size a.lengths.now ≡ false = ap (λ (k : ℕ). no_room a.m (k + length a.psd.now) a.size a.lengths.now) (sym (x-length c.before.before.before.before.before)) ∙ sym c.before.no_room.ensures ∙ c.if-no_room.false in
    rw (not1 c.before.before.before.before.before.before.before.before.before.before.before.before.before.before.before, not2 c.before.before.before.before.before.before.before.before.before.before.before.before.before, not3 c.before.before.before.before.before.before.before.before.before.before.before, not4 c.before.before.before.before.before.before.before.before.before, not5 c.before.before.before.before.before.before.before, not6 c.before.before.before, t)

pub refusal_spec : {M : Type 1} → statement M
refusal_spec =
    tie.close (tie.spec (λ c κs. search rules) returns (λ c κs. search rules) returns-2 (λ c κs. search rules) returns-3 (λ c κs. search rules) returns-4
    (λ c κs. search rules) returns-5 cast-fields-for fields-for-requires (λ c κs. search rules) (λ c κs. search rules) returns-6 add-no-room no-room-requires
    returns-7 returns-8)
