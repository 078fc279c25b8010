-- Each entry's outcome, by the order of document 01's table: from the image, what else is lent, and the areas.
use Rattle.std.specs.Prelude.{ℕ, List, [], ◌∷◌, length, ltb, cond}
use Rattle.model.specs.Gate.{Net, size}
use Rattle.model.specs.Normal.{make_canonical}
use Rattle.model.specs.Network.{translation, mapping_of, deduplicate, canonical, dedup_map, as_is, cleanup_order, cleanup, topo_order, topo_sort, sorts}
use Rattle.model.specs.Sharing.{flatten_nary, flattened_inputs, factor_nary, factor_refusal, any_repeats, share_logic}
use Rattle.model.specs.Image.{refusal_of, sorted_refusal_of, net_of, image_of}
use Rattle.model.specs.Evaluate.{output_bytes, state_bytes, cycle_refusal}
use Rattle.model.specs.Answers.{Outcome, refused, written, evaluated, result_after, second_after, area_after, in_areas, in_room, unless}

-- read: 1; 2 to 6; 13. The image of what was read: the given one without its prefix
unfoldable pub read_outcome : List ℕ → List ℕ → List ℕ → List ℕ → Outcome
read_outcome img out a b = in_areas a b (in_room (length out) 0 (unless (refusal_of img) (written (image_of (net_of img)) [])))

-- a cycle of a network, in bytes
unfoldable pub evaluated_of : Net → List ℕ → List ℕ → Outcome
evaluated_of N inputs state = evaluated (output_bytes N inputs state) (state_bytes N inputs state)

-- 13; 14; the cycle. `room` is the length lent for the outputs
unfoldable pub cycle_outcome : Net → List ℕ → List ℕ → ℕ → Outcome
cycle_outcome N inputs state room = unless (cycle_refusal N inputs state room) (evaluated_of N inputs state)

-- evaluate: 1; 2 to 7; 13; 14. One cycle: the outputs' bytes, and the state's bytes for all nodes
unfoldable pub evaluate_outcome : List ℕ → List ℕ → List ℕ → List ℕ → List ℕ → List ℕ → Outcome
evaluate_outcome img inputs state out a b = in_areas a b (unless (sorted_refusal_of img) (cycle_outcome (net_of img) inputs state (length out)))

-- calls of evaluate, one for each vector of input bytes, each with what the call before left in the buffers and the areas
unfoldable pub calls : List ℕ → List (List ℕ) → List ℕ → List ℕ → List ℕ → List ℕ → List Outcome
calls img [] state out a b = []
calls img (x ∷ xs) state out a b =
    let o = evaluate_outcome img x state out a b in
    o ∷ calls img xs (second_after o state) (result_after o out) (area_after a b a) (area_after a b b)

-- the entries that write a mapping too: image, out, map, a, b
module _ (img out mapping a b : List ℕ) where
  abbrev mapped : ℕ → (Net → Outcome) → Outcome
  mapped n pass = in_areas a b (in_room (length out) (length mapping) (unless n (pass (net_of img))))

  -- canonical and dedup: 1; 2 to 7; 13
  unfoldable pub canonical_outcome : Outcome
  canonical_outcome = mapped (sorted_refusal_of img) (λ N. written (image_of (canonical N)) (mapping_of (size N) (dedup_map make_canonical N)))

  unfoldable pub dedup_outcome : Outcome
  dedup_outcome = mapped (sorted_refusal_of img) (λ N. written (image_of (deduplicate N)) (mapping_of (size N) (dedup_map as_is N)))

  -- cleanup: 1; 2 to 6; 13
  unfoldable pub cleanup_outcome : Outcome
  cleanup_outcome = mapped (refusal_of img) (λ N. written (image_of (cleanup N)) (mapping_of (size N) (translation (size N) (cleanup_order N))))

  -- sort: 1; 2 to 6; 8, "a combinational loop"; 13
  unfoldable pub sort_outcome : Outcome
  sort_outcome =
      mapped (refusal_of img) (λ N. cond (sorts N)
      (written (image_of (topo_sort N)) (mapping_of (size N) (translation (size N) (topo_order N))))
      (refused 8))

-- the entries that write an image alone: image, out, a, b
module _ (img out a b : List ℕ) where
  abbrev imaged : (Net → Outcome) → Outcome
  imaged pass = in_areas a b (in_room (length out) 0 (unless (sorted_refusal_of img) (pass (net_of img))))

  -- 10: "gate inputs after flattening, before cleanup, pass 2,048"
  abbrev flat_refusal : Net → ℕ → ℕ
  flat_refusal N limit = cond (ltb 2048 (flattened_inputs N limit)) 10 0

  -- flatten: 1; 2 to 7; 10; 13
  unfoldable pub flatten_outcome : ℕ → Outcome
  flatten_outcome limit = imaged (λ N. unless (flat_refusal N limit) (written (image_of (flatten_nary N limit)) []))

  -- factor: 1; 2 to 7; 9; 11 and 12; 13
  unfoldable pub factor_outcome : Outcome
  factor_outcome = imaged (λ N. unless (cond (any_repeats N.nodes) 9 0) (unless (factor_refusal N) (written (image_of (factor_nary N)) [])))

  -- share: 1; 2 to 7; 10; 11 and 12; 13
  unfoldable pub share_outcome : ℕ → Outcome
  share_outcome limit =
      imaged (λ N. unless (flat_refusal N limit) (unless (factor_refusal (flatten_nary N limit)) (written (image_of (share_logic N limit)) [])))
