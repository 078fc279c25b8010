-- The laws of loading an image: what `check` answered, and the body behind the prefix.
use mathlib.Core.Path.{◌≡◌, refl, sym, ap, ◌∙◌, subst}
use mathlib.Core.Bool.{Bool, true, false}
use mathlib.Core.List.{List}
use Prim.Native.Nat.{ℕ, ◌+◌, ◌-◌, ◌≤◌}
use native.Mathlib.Omega.{arith}
use lib.ListN.{length, take, drop, length-drop}
use lib.Seq.{take_all}
use Rattle.model.specs.Gate.{Net, Valid}
use Rattle.model.specs.Image.{words, inputs_in, nodes_in, outs_in, span_in, body_of, words_of, end_from, net_in, net_of, refusal_of}
use Rattle.shape.proofs.Accepted.{accepted}
use Rattle.shape.proofs.Valids.{valid_net}
use Rattle.shape.proofs.Ladder.{sorted_at0}
use Rattle.std.specs.Prelude.{Result, Ok, Err}
use Rattle.refusals.specs.Numbers.{number, unless}
use Rattle.refusals.specs.declared.Refusal.{Refusal}
use Rattle.refusals.proofs.Numbers.{number_above, unless_ok_number, unless_ok_value, unless_err, unless_number}
use Rattle.image.specs.Reader.{frame_of, number_of}
use Rattle.image.specs.declared.Frame.{Frame}
use Rattle.tables.specs.Layout.{net_size}
use Rattle.tables.specs.Holding.{Holds}
use Rattle.tables.specs.declared.counts.Counts.{Counts}
use Rattle.load_body.specs.Loading.{Loadable}
use Rattle.load.specs.Images.{counts_of, AcceptedFrame, Counted, Read}

-- ---- load_frame: i, n and o are the counts that it has widened

module _ (img : List ℕ) (f : Frame) (l : List ℕ) (A : AcceptedFrame img f l) where
  start_is : f.start ≡ length img - span_in img
  unfolding frame_of
  start_is = ap (λ (g : Frame). g.start) A.frame

  pub frame_start : f.start ≤ length img
  frame_start = omega (arith, start_is)

  part_words : words (take (length img - f.start) (drop f.start img)) ≡ words_of img
  unfolding words_of body_of
  part_words =
      ap words
      (take_all (length img - f.start) (drop f.start img) (rw length-drop (omega arith)) ∙ ap (λ (n : ℕ). drop n img) start_is)

  module _ (i n o : ℕ) (ei : i ≡ f.inputs) (en : n ≡ f.nodes) (eo : o ≡ f.outs) where
    counts_are : ◌≡◌ {A = Counts} (record { inputs = i; nodes = n; outs = o }) (counts_of img)
    unfolding counts_of frame_of
    counts_are =
        let p : i ≡ inputs_in img = ei ∙ ap (λ (g : Frame). g.inputs) A.frame in
        let q : n ≡ nodes_in img = en ∙ ap (λ (g : Frame). g.nodes) A.frame in
        let r : o ≡ outs_in img = eo ∙ ap (λ (g : Frame). g.outs) A.frame in
        λ j. record { inputs = p j; nodes = q j; outs = r j }

    net_is : net_in i n o (words (take (length img - f.start) (drop f.start img))) ≡ net_of img
    unfolding net_of counts_of
    net_is =
        ap (net_in i n o) part_words ∙ ap (λ (c : Counts). net_in c.inputs c.nodes c.outs (words_of img)) counts_are

    ends_are : end_from n (words_of img) 0 + (o + 4) ≡ length (words_of img)
    unfolding counts_of
    ends_are =
        subst (λ (c : Counts). end_from c.nodes (words_of img) 0 + (c.outs + 4) ≡ length (words_of img)) (sym counts_are)
        (accepted img A.accepted).layout.ends

    pub frame_loadable : Loadable (take (length img - f.start) (drop f.start img)) l (record { inputs = i; nodes = n; outs = o })
    frame_loadable = record {
      long = A.long;
      ends = subst (λ (ws : List ℕ). end_from n ws 0 + (o + 4) ≡ length ws) (sym part_words) ends_are;
      valid = subst (λ (N : Net). Valid N) (sym net_is) (valid_net img A.accepted);
    }

    pub frame_counted : (l' : List ℕ) → Holds l' (record { inputs = i; nodes = n; outs = o }) (net_in i n o (words (take (length img - f.start) (drop f.start img))))
        → Counted img l' (record { inputs = i; nodes = n; outs = o })
    frame_counted l' H = record { counts = counts_are; holds = subst (λ (N : Net). Holds l' (record { inputs = i; nodes = n; outs = o }) N) net_is H }

-- ---- load: k is the number that refuses, without 7 or with it

none_before : (s : Bool) (img : List ℕ) → number_of s img ≡ 0 → refusal_of img ≡ 0
none_before false img z = z
none_before true img z = ((sorted_at0 img).0 z).0

module _ (img : List ℕ) (s : Bool) where
  pub load_refused : (e x : Refusal) (r : Result Counts Refusal) → Err (number e) ≡ unless (number_of s img) (frame_of img) → r ≡ Err x → x ≡ e
      → (l : List ℕ) → Read (number_of s img) img l r
  load_refused e x r d p q l =
      let n : number e ≡ number_of s img = unless_err (Err e) (number_of s img) (frame_of img) e d refl in
      record {
        answer = rw (p, q, ← n) (sym (unless_number e (counts_of img)));
        holds = λ z. absurd (omega (arith, number_above e));
      }

  module _ (f : Frame) (e : Ok f ≡ unless (number_of s img) (frame_of img)) where
    passes : number_of s img ≡ 0
    passes = unless_ok_number (Ok f) (number_of s img) (frame_of img) f e refl

    pub load_framed : (l : List ℕ) → net_size ≤ length l → AcceptedFrame img f l
    load_framed l h = record {
      frame = unless_ok_value (Ok f) (number_of s img) (frame_of img) f e refl;
      accepted = none_before s img passes;
      long = h;
    }

    pub load_network : (l' : List ℕ) (c : Counts) → Counted img l' c → Read (number_of s img) img l' (Ok c)
    load_network l' c C = record {
      answer = rw passes (ap Ok C.counts);
      holds = λ y. subst (λ (d : Counts). Holds l' d (net_of img)) C.counts C.holds;
    }
