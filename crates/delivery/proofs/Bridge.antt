-- The receiver's calls as a machine that hands over PDUs of a run (runs/proofs/Calls.antt): what each kind of call has to prove.
use mathlib.Core.Path.{◌≡◌, refl, sym, ap, ap₂, subst, ◌∙◌}
use mathlib.Core.Bool.{Bool, true, false, ◌||◌, cond}
use mathlib.Core.List.{List, [], ◌∷◌, ◌++◌}
use Prim.Native.Nat.{ℕ, ◌+◌, ◌<◌, ◌≤◌}
use native.Mathlib.Omega.{arith}
use lib.Dec.{eqb}
use borrow.Author.Tests.{eq-eqb, ne_eqb}
use lib.ListN.{length, take, take-append-drop}
use Rattle.header.proofs.Unique.{all-bytes}
use Rattle.modes.specs.Modes.{listing}
use Rattle.modes.specs.declared.Mode.{Mode}
use Rattle.modes.specs.declared.Listing.{Listing}
use Rattle.modes.specs.declared.Listing.TheVariants.{Listed}
use Rattle.layout.specs.Control.{control_at}
use Rattle.layout.specs.declared.ControlWord.{ControlWord}
use Rattle.correction.specs.Correction.{corrected_pdu}
use Rattle.correction.specs.Marks.{corrected_pdu_with}
use Rattle.correction.proofs.Answers.{no-marks-pdu}
use Rattle.pdu.specs.Reading.{mode_in, width_of}
use Rattle.packet_log.specs.Log.{log_words}
use Rattle.packet_log.proofs.Packets.{FitAll}
use Rattle.reassembly.specs.Reassembly.{Said, Outcome, received}
use Rattle.reassembly.specs.Rights.{Rights, Label, under}
use Rattle.reassembly.specs.Tally.{Countable}
use Rattle.reassembly.specs.Holder.{Come, Holder, said_to}
use Rattle.reassembly.proofs.Fitting.{SaneSaid, fit-received}
use Rattle.reassembly.proofs.Blind.{blank_said}
use Rattle.runs.proofs.Blind.{received-same, holder-same}
use Rattle.receiver.specs.Receiving.{said_by, label_in, come_by, refused_answer, lost_number, lost_answer}
use Rattle.receiver.specs.declared.Receiver.{Receiver}
use Rattle.receiver.specs.declared.Received.{Received}
use Rattle.runs.specs.Transmissions.{Way, gone, here}
use Rattle.runs.proofs.Calls.{Speech, heard, Matching, Machine, Serves, Bridge}
use Rattle.runs.proofs.Bridges.{serves-one, serves-none}
use Rattle.runs.proofs.General.{countable-less}
use Rattle.batch.proofs.Single.{kept}
use Rattle.batch.proofs.OneByOne.{none-taken}
use Rattle.runs.proofs.Events.{lost, came, holder_for, after}
use Rattle.delivery.proofs.Parts.{answer_of}
use Rattle.delivery.specs.Delivery.{Station, Call, receive, batch, mark_lost, station_after, taken_by, RefusedAfter, logged_by, defined, HeaderAltered, alone, paired}
use Rattle.delivery.specs.Copies.{front_length, restored, bytes_at, crc_at}
use Rattle.delivery.proofs.SoundSteps.{Copy, causes_for}
use Rattle.diversity.specs.Diversity.{pair_said, pair_come}
use Rattle.pair.proofs.Enough.{Passes}
use Rattle.delivery.proofs.Diversity.{pair-kept, pair-said-in, pair-label-in, pair-passes, pair-accepted, pair-logged, pair-shows}
use Rattle.delivery.proofs.Pairs.{pair-heard, pair-sane, pair-agrees}
use Rattle.delivery.proofs.Copies.{stricken, Plain, copy-long, copy-size, copy-correctable, copy-reads, copy-control, copy-label, copy-says, copy-sane}
use Rattle.delivery.proofs.Made.{Heard, SaneLabel, Says, said_in, label-in}
use Rattle.delivery.proofs.Serving.{rights_by, sane-shown, Shows, receive-accepted, receive-logged, receive-shows, lost-accepted, lost-logged, lost-shows}

-- ---- a call that is refused and takes no PDU leaves receiver and carry

kept_by : (b : Bool) (n : ℕ) (a : Received) (r : Receiver) (k : ℕ) → eqb n 0 ≡ b → a.refusal ≡ 0 → ¬ ((cond b a (refused_answer r n k)).refusal ≡ 0) → (cond b a (refused_answer r n k)).receiver ≡ r
kept_by true n a r k e z h = absurd (h z)
kept_by false n a r k e z h = refl

station-kept : (x : Station) (c : Call) → RefusedAfter defined 0 x c → station_after defined x c ≡ x
unfolding lost_answer
station-kept x (receive (alone n q) log) h =
    let k = kept n x.carry q log x.receiver h.0 in
    ap₂ (λ (r : Receiver) (c : List ℕ). record { receiver = r; carry = c }) k.receiver k.carry'
station-kept x (batch lengths pdus log) h =
    let k = none-taken lengths x.carry pdus log x.receiver h.0 h.1 in
    ap₂ (λ (r : Receiver) (c : List ℕ). record { receiver = r; carry = c }) k.0 k.1
station-kept x (receive (paired q r) log) h =
    let k = pair-kept x.carry q r log x.receiver h.0 in
    ap₂ (λ (r : Receiver) (c : List ℕ). record { receiver = r; carry = c }) k.0 k.1
station-kept x (mark_lost log) h =
    ap (λ (r : Receiver). record { receiver = r; carry = x.carry })
    (kept_by (eqb (lost_number log x.receiver) 0) (lost_number log x.receiver) _ x.receiver 0 refl refl h.0)

nothing-logged : (x : Station) (c : Call) → RefusedAfter defined 0 x c → logged_by defined x c ≡ []
nothing-logged x c h =
    let r : eqb (answer_of x c).refusal 0 ≡ false = ne_eqb (answer_of x c).refusal 0 h.0 in
    let e : eqb (taken_by defined x c) 0 ≡ true = eq-eqb (taken_by defined x c) 0 h.1 in
    rw (r, e)

-- ---- the machine

abbrev pub stations : Machine
stations = record { State = Station; Call = Call; next = station_after defined; words = logged_by defined }

abbrev pub no_causes : ℕ → ℕ
no_causes k = 0

-- How a call hands over a PDU of a run, or none. A new kind of call is a new line here, and a case of `serves`.
pub data Handing (register width : ℕ) (x : Station) : Call → List (List ℕ) → List Way → Type 0 where
  copied : {marks p q log : List ℕ} {sound : ℕ → Bool} → Copy register width p marks q sound → 8400 ≤ length log → Handing register width x (receive (alone marks q) log) (p ∷ []) (here (causes_for sound) ∷ [])
  doubled : {p q r log : List ℕ} {sound other : ℕ → Bool} → Copy register width p [] q sound → Copy register width p [] r other → 8400 ≤ length log
      → Handing register width x (receive (paired q r) log) (p ∷ []) (here (causes_for (λ k. sound k || other k)) ∷ [])
  losing : {p log : List ℕ} → 8400 ≤ length log → Handing register width x (mark_lost log) (p ∷ []) (gone ∷ [])
  refusing : {c : Call} → RefusedAfter defined 0 x c → Handing register width x c [] []

abbrev pub Accepted : Station → Call → List (List ℕ) → Type 0
Accepted x c [] = Unit {0}
Accepted x c (p ∷ ps) = (answer_of x c).refusal ≡ 0

pub as_many : (register width : ℕ) (x : Station) (c : Call) (ps : List (List ℕ)) (ws : List Way) → Handing register width x c ps ws → length ws ≡ length ps
as_many register width x c ps ws (copied a b) = refl
as_many register width x c ps ws (doubled a b h) = refl
as_many register width x c ps ws (losing b) = refl
as_many register width x c ps ws (refusing h) = refl

-- ---- demand 3's alterations: a copy whose pieces are all sound

pub altered-copy : (register width : ℕ) (marks p q : List ℕ) → HeaderAltered marks p q → Copy register width p marks q (λ k. true)
altered-copy register width marks p q a =
    let e : restored p q ≡ p = ap (λ (l : List ℕ). take 96 p ++ l) a.rest ∙ take-append-drop 96 p in
    record {
      header = a.header;
      front = ap (take (front_length p)) e;
      whole = λ k h s. (ap (λ (y : List ℕ). bytes_at width p y k) e, ap (λ (y : List ℕ). crc_at width p y k) e);
      found = λ k h s. absurd (let z : ◌≡◌ {A = ℕ} 0 1 = cc in omega arith);
    }

module _ (mode stream register entitled : ℕ) (m : Mode) (l : listing mode stream ≡ Listed m) (range : 0 < m.sequences) where
  abbrev pub rights : Rights
  rights = rights_by entitled stream m

  -- a PDU as it was written, and what it says by the causes of its pieces, with one label
  pub record Speaks (p : List ℕ) (d : Speech) : Type 0 where
    pub says : Says mode stream register m.width p (record { said = under false (d no_causes).said; label = (d no_causes).label })
    pub below : (d no_causes).said.sequence < m.sequences
    pub struck : (s : ℕ → Bool) → stricken s (under false (d no_causes).said) ≡ under false (d (causes_for s)).said
    pub labels : (f : ℕ → ℕ) → (d f).label ≡ (d no_causes).label

  module _ (p : List ℕ) (d : Speech) (g : Speaks p d) where
    plain : Plain register m.width p
    plain = record {
      code = g.says.code;
      least = g.says.least;
      most = g.says.most;
      bytes = g.says.bytes;
      accepted = g.says.accepted;
      wide = unfold width_of in ap₂ (λ (a b : ℕ). (mode_in (listing a b)).width) g.says.same_mode g.says.same_stream ∙ ap (λ (k : Listing). (mode_in k).width) l;
      right = g.says.crcs;
    }

    said-is : said_by register m.width (control_at p) p ≡ under false (d no_causes).said
    said-is = sym (said_in register m.width (control_at p) p) ∙ ap (λ (c : Come). c.said) g.says.comes

    label_is : label_in m.width (control_at p) p ≡ (d no_causes).label
    label_is = sym (label-in register m.width (control_at p) p) ∙ ap (λ (c : Come). c.label) g.says.comes

    said-sane : SaneSaid (said_by register m.width (control_at p) p)
    said-sane = subst SaneSaid (sym said-is) g.says.sane

    narrow-label : (k : Label) → k ≡ (d no_causes).label → k.services < 8
    narrow-label k e = (subst SaneLabel (sym e) g.says.labelled).1

    module _ (n q : List ℕ) (sound : ℕ → Bool) (x : Copy register m.width p n q sound) where
      -- what the receiver reads
      abbrev pub read : Come
      read = come_by register m.width (control_at (corrected_pdu_with n q)) (corrected_pdu_with n q)

      read-said : read.said ≡ said_by register m.width (control_at (corrected_pdu_with n q)) (corrected_pdu_with n q)
      read-said = said_in register m.width (control_at (corrected_pdu_with n q)) (corrected_pdu_with n q)

      read-label : read.label ≡ (d no_causes).label
      read-label = label-in register m.width (control_at (corrected_pdu_with n q)) (corrected_pdu_with n q) ∙ copy-label register m.width p n q sound plain x ∙ label_is

      read-blank : blank_said read.said ≡ blank_said (stricken sound (under false (d no_causes).said))
      read-blank = ap blank_said read-said ∙ copy-says register m.width p n q sound plain x ∙ ap (λ (t : Said). blank_said (stricken sound t)) said-is

      alike : blank_said read.said ≡ blank_said (under false (d (causes_for sound)).said)
      alike = read-blank ∙ ap blank_said (g.struck sound)

      same-label : read.label ≡ (d (causes_for sound)).label
      same-label = read-label ∙ sym (g.labels (causes_for sound))

      pub heard-copy : Heard mode stream register m.width n q read
      heard-copy = record {
        size = copy-size register m.width p n q sound plain x;
        allowed = x.header.allowed;
        correctable = copy-correctable register m.width p n q sound plain x;
        reads = copy-reads register m.width p n q sound plain x;
        same_mode = ap (λ (c : ControlWord). c.mode) (copy-control register m.width p n q sound plain x) ∙ g.says.same_mode;
        same_stream = ap (λ (c : ControlWord). c.stream) (copy-control register m.width p n q sound plain x) ∙ g.says.same_stream;
        comes = refl;
      }

      pub sane-copy : SaneSaid read.said
      sane-copy = subst SaneSaid (sym read-said) (copy-sane register m.width p n q sound plain x said-sane)

      pub copy-below : read.said.sequence < m.sequences
      copy-below =
          let e : read.said.sequence ≡ (d no_causes).said.sequence = ap (λ (t : Said). t.sequence) read-blank in
          let b = g.below in
          omega (arith, e, b)

      pub copy-narrow : read.label.services < 8
      copy-narrow = narrow-label read.label read-label

      pub copy-received : (y : Holder) → received m.sequences y.memory (said_to rights m.sequences y read) ≡ received m.sequences y.memory (said_to rights m.sequences y (d (causes_for sound)))
      copy-received y = received-same rights m.sequences y read (d (causes_for sound)) alike same-label

      pub copy-holder : (y : Holder) → holder_for rights m.sequences y (came read) ≡ holder_for rights m.sequences y (came (d (causes_for sound)))
      copy-holder y = holder-same rights m.sequences y read (d (causes_for sound)) alike same-label

    -- document 02, Ask 5: two copies
    module _ (q r : List ℕ) (s t : ℕ → Bool) (x : Copy register m.width p [] q s) (v : Copy register m.width p [] r t) where
      -- sound in one copy at least
      abbrev pub either : ℕ → Bool
      either k = s k || t k

      -- what the receiver reads of the pair
      abbrev pub read_pair : Come
      read_pair = pair_come register m.width (control_at (corrected_pdu q)) (corrected_pdu q) (corrected_pdu r)

      pair-said : pair_said register m.width (control_at (corrected_pdu_with [] q)) (corrected_pdu_with [] q) (corrected_pdu_with [] r) ≡ read_pair.said
      pair-said = (λ i. pair_said register m.width (control_at (no-marks-pdu q i)) (no-marks-pdu q i) (no-marks-pdu r i)) ∙ sym (pair-said-in register m.width (control_at (corrected_pdu q)) (corrected_pdu q) (corrected_pdu r))

      pair-label : read_pair.label ≡ (d no_causes).label
      pair-label =
          pair-label-in register m.width (control_at (corrected_pdu q)) (corrected_pdu q) (corrected_pdu r)
          ∙ ap (λ (y : List ℕ). label_in m.width (control_at y) y) (sym (no-marks-pdu q))
          ∙ copy-label register m.width p [] q s plain x
          ∙ label_is

      heard-pair : blank_said read_pair.said ≡ blank_said (stricken either (under false (d no_causes).said))
      heard-pair = ap blank_said (sym pair-said) ∙ pair-heard register m.width p [] q [] r s t plain x v ∙ ap (λ (u : Said). blank_said (stricken either u)) said-is

      together : blank_said read_pair.said ≡ blank_said (under false (d (causes_for either)).said)
      together = heard-pair ∙ ap blank_said (g.struck either)

      same-labels : read_pair.label ≡ (d (causes_for either)).label
      same-labels = pair-label ∙ sym (g.labels (causes_for either))

      pub sane-read_pair : SaneSaid read_pair.said
      sane-read_pair = subst SaneSaid pair-said (pair-sane register m.width p [] q [] r s t plain x v said-sane)

      pub pair-below : read_pair.said.sequence < m.sequences
      pair-below =
          let e : read_pair.said.sequence ≡ (d no_causes).said.sequence = ap (λ (u : Said). u.sequence) heard-pair in
          let b = g.below in
          omega (arith, e, b)

      pub pair-narrow : read_pair.label.services < 8
      pair-narrow = narrow-label read_pair.label pair-label

      pub pair-received : (y : Holder) → received m.sequences y.memory (said_to rights m.sequences y read_pair) ≡ received m.sequences y.memory (said_to rights m.sequences y (d (causes_for either)))
      pair-received y = received-same rights m.sequences y read_pair (d (causes_for either)) together same-labels

      pub pair-holder : (y : Holder) → holder_for rights m.sequences y (came read_pair) ≡ holder_for rights m.sequences y (came (d (causes_for either)))
      pair-holder y = holder-same rights m.sequences y read_pair (d (causes_for either)) together same-labels

      -- no row turns the pair down
      pub copies-pass : (y : Station) (z : Holder) (log : List ℕ) → Shows mode stream register entitled m l range y z → Passes y.carry q r log y.receiver
      copies-pass y z log u =
          let eq = no-marks-pdu q in
          let er = no-marks-pdu r in
          pair-passes mode stream register entitled m l range y z u (control_at p) q r log _ _ (heard-copy [] q s x) (heard-copy [] r t v)
          (ap control_at (sym eq) ∙ copy-control register m.width p [] q s plain x) (ap control_at (sym er) ∙ copy-control register m.width p [] r t plain v)
          (ap length (sym eq) ∙ copy-long register m.width p [] q s plain x ∙ sym (ap length (sym er) ∙ copy-long register m.width p [] r t plain v))
          (ap (take ((control_at p).la + 1)) (sym eq) ∙ pair-agrees register m.width p [] q [] r s t plain x v ∙ ap (take ((control_at p).la + 1)) er)

  abbrev pub StandsFor : Station → Holder → Type 0
  StandsFor = Shows mode stream register entitled m l range

  pub serves : (x : Station) (y : Holder) (c : Call) (ps : List (List ℕ)) (ws : List Way) (ds : List Speech) → StandsFor x y → Handing register m.width x c ps ws → Matching Speaks ps ds
      → Countable (after rights m.sequences y (heard ws ds)).tally → Accepted x c ps × Serves rights m.sequences stations StandsFor x y c (heard ws ds)
  unfolding heard after
  serves x y c ps ws [] s (copied a b) g k = absurd g
  serves x y c ps ws (d ∷ e ∷ ds) s (copied a b) g k = absurd g.1
  serves x y c ps ws (d ∷ []) s (copied {marks = n} {p = p} {q = q} {log = log} {sound = sound} a big) g k =
      let u : Come = read p d g.0 n q sound a in
      let b = all-bytes q a.header.bytes in
      let hq = heard-copy p d g.0 n q sound a in
      let sn = sane-copy p d g.0 n q sound a in
      let lo = copy-below p d g.0 n q sound a in
      let na = copy-narrow p d g.0 n q sound a in
      let er = copy-received p d g.0 n q sound a y in
      let w = subst (λ (z : Holder). Countable z.tally) (sym (copy-holder p d g.0 n q sound a y)) k in (
        receive-accepted mode stream register entitled m l range x y s n q log u hq sn lo na b big w,
        serves-one rights m.sequences stations StandsFor x y (receive (alone n q) log) (came (d (causes_for sound)))
            (receive-logged mode stream register entitled m l range x y s n q log u hq sn lo na b big w ∙ ap (λ (o : Outcome). log_words o.entries) er)
            (subst (λ (o : Outcome). FitAll o.entries) er (fit-received m.sequences y.memory (said_to rights m.sequences y u) s.sane (sane-shown rights m.sequences y u sn)).0)
            (subst (λ (z : Holder). Shows mode stream register entitled m l range (station_after defined x (receive (alone n q) log)) z) (copy-holder p d g.0 n q sound a y) (receive-shows mode stream register entitled m l range x y s n q log u hq sn lo na b big w)),
      )
  serves x y c ps ws [] s (doubled a b h) g k = absurd g
  serves x y c ps ws (d ∷ e ∷ ds) s (doubled a b h) g k = absurd g.1
  serves x y c ps ws (d ∷ []) s (doubled {p = p} {q = q} {r = r} {log = log} {sound = i} {other = j} a b big) g fits =
      let u : Come = read_pair p d g.0 q r i j a b in
      let k = all-bytes q a.header.bytes in
      let h = copies-pass p d g.0 q r i j a b x y log s in
      let sn = sane-read_pair p d g.0 q r i j a b in
      let lo = pair-below p d g.0 q r i j a b in
      let na = pair-narrow p d g.0 q r i j a b in
      let er = pair-received p d g.0 q r i j a b y in
      let w = subst (λ (z : Holder). Countable z.tally) (sym (pair-holder p d g.0 q r i j a b y)) fits in (
        pair-accepted mode stream register entitled m l range x y s q r log u h refl sn lo na k big w,
        serves-one rights m.sequences stations StandsFor x y (receive (paired q r) log) (came (d (causes_for (λ n. i n || j n))))
            (pair-logged mode stream register entitled m l range x y s q r log u h refl sn lo na k big w ∙ ap (λ (o : Outcome). log_words o.entries) er)
            (subst (λ (o : Outcome). FitAll o.entries) er (fit-received m.sequences y.memory (said_to rights m.sequences y u) s.sane (sane-shown rights m.sequences y u sn)).0)
            (subst (λ (z : Holder). Shows mode stream register entitled m l range (station_after defined x (receive (paired q r) log)) z) (pair-holder p d g.0 q r i j a b y) (pair-shows mode stream register entitled m l range x y s q r log u h refl sn lo na k big w)),
      )
  serves x y c ps ws [] s (losing b) g k = absurd g
  serves x y c ps ws (d ∷ e ∷ ds) s (losing b) g k = absurd g.1
  serves x y c ps ws (d ∷ []) s (losing {log = log} big) g k = (
    lost-accepted mode stream register entitled m l range x y s log big,
    serves-one rights m.sequences stations StandsFor x y (mark_lost log) lost
        (lost-logged mode stream register entitled m l range x y s log big)
        ((omega arith, omega arith), tt)
        (lost-shows mode stream register entitled m l range x y s log big),
  )
  serves x y c ps ws ds s (refusing h) g k =
      (tt, serves-none rights m.sequences stations StandsFor x y c (nothing-logged x c h) (subst (λ (t : Station). StandsFor t y) (sym (station-kept x c h)) s))

  abbrev pub bridge : Bridge rights m.sequences stations
  bridge = record {
    Pdu = List ℕ;
    Says = Speaks;
    Stands = StandsFor;
    Hands = Handing register m.width;
    Good = Accepted;
    Within = Countable;
    within-less = countable-less;
    as_many = as_many register m.width;
    serves = serves;
  }
