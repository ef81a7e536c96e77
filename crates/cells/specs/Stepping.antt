-- A job cut into steps, in any machine: whatever events come between, memory has exactly the steps that were worked, and at the end all of them.
-- Nothing here speaks of a part: the crate `demands` uses it for this one, and another part can use it as it stands.
use Rattle.std.specs.Prelude.{ℕ, zero, suc, ◌+◌, ◌<◌, ◌≡◌, ◌⊎◌}
use mathlib.Core.List.{List, [], ◌∷◌}
use Rattle.std.proofs.Math.Path.{refl, subst}
use Rattle.std.proofs.Common.{sym, ap, ◌∙◌, inr, add-zero, add-suc, add_assoc}
use Rattle.std.proofs.Math.Logic.{inl, ⊎_elim}
use native.Mathlib.Omega.{arith}

-- a list of steps: step i, as a change of memory
abbrev pub Steps : Type 0
Steps = ℕ → List ℕ → List ℕ

-- the k steps from step d on, laid on memory one after the other
unfoldable pub laid : Steps → ℕ → ℕ → List ℕ → List ℕ
laid step d zero m = m
laid step d (suc k) m = step (d + k) (laid step d k m)

-- k steps and then j are k + j
pub laid-add : (step : Steps) (d k j : ℕ) (m : List ℕ) → laid step d (k + j) m ≡ laid step (d + k) j (laid step d k m)
unfolding laid
laid-add step d k zero m = rw add-zero
laid-add step d k (suc j) m = rw (add-suc, laid) (ap (step (d + (k + j))) (laid-add step d k j m) ∙ ap (λ (i : ℕ). step i (laid step (d + k) j (laid step d k m))) (sym (add_assoc d k j)))

-- A machine with a job of `total` steps under way: its worlds and events, the memory of a world and the working ticks of an event.
-- `At i w`: the job stands at step i in w. `Over w`: it has done its last step. `Spares e w`: e at w neither drops it nor begins another.
pub record Machine (World Event : Type 0) (step : Steps) (total : ℕ) : Type 1 where
  pub next : Event → World → World
  pub memory : World → List ℕ
  pub worked : Event → World → ℕ
  pub At : ℕ → World → Type 0
  pub Over : World → Type 0
  pub Spares : Event → World → Type 0
  -- the job goes on, or its last step is done
  pub goes : (i : ℕ) (e : Event) (w : World) → At i w → Spares e w
      → (memory (next e w) ≡ laid step i (worked e w) (memory w)) × (((i + worked e w < total) × At (i + worked e w) (next e w)) ⊎ ((i + worked e w ≡ total) × Over (next e w)))
  -- once it is over, nothing more is worked
  pub rests : (e : Event) (w : World) → Over w → Spares e w → (memory (next e w) ≡ memory w) × (worked e w ≡ 0) × Over (next e w)

module _ {World Event : Type 0} {step : Steps} {total : ℕ} (M : Machine World Event step total) where
  -- the world after a list of events, and the working ticks among them
  unfoldable pub after : List Event → World → World
  after [] w = w
  after (e ∷ es) w = after es (M.next e w)

  unfoldable pub count : List Event → World → ℕ
  count [] w = 0
  count (e ∷ es) w = M.worked e w + count es (M.next e w)

  -- no event of the list drops the job or begins another
  unfoldable pub AllSpare : List Event → World → Type 0
  AllSpare [] w = Unit {0}
  AllSpare (e ∷ es) w = M.Spares e w × AllSpare es (M.next e w)

  -- what has become of a job that stood at step i, k working ticks later
  pub record Stands (i k : ℕ) (w w' : World) : Type 0 where
    pub laid_down : M.memory w' ≡ laid step i k (M.memory w)
    pub where_it_is : ((i + k < total) × M.At (i + k) w') ⊎ ((i + k ≡ total) × M.Over w')

  over_stays : (es : List Event) (w : World) → M.Over w → AllSpare es w → (M.memory (after es w) ≡ M.memory w) × (count es w ≡ 0) × M.Over (after es w)
  unfolding after count AllSpare
  over_stays [] w o s = (refl, refl, o)
  over_stays (e ∷ es) w o s =
      let one = M.rests e w o s.0 in
      let more = over_stays es (M.next e w) one.2 s.1 in
      (more.0 ∙ one.0, omega (arith, one.1, more.1), more.2)

  -- an event that leaves the job on its way, and the rest of the events
  then_more : (i : ℕ) (e : Event) (es : List Event) (w : World) → M.memory (M.next e w) ≡ laid step i (M.worked e w) (M.memory w)
      → Stands (i + M.worked e w) (count es (M.next e w)) (M.next e w) (after es (M.next e w))
      → Stands i (M.worked e w + count es (M.next e w)) w (after es (M.next e w))
  then_more i e es w laid_one more =
      let j : ℕ = M.worked e w in
      let k : ℕ = count es (M.next e w) in
      record {
        laid_down = more.laid_down ∙ ap (laid step (i + j) k) laid_one ∙ sym (laid-add step i j k (M.memory w));
        where_it_is =
            subst (λ (q : ℕ). ((q < total) × M.At q (after es (M.next e w))) ⊎ ((q ≡ total) × M.Over (after es (M.next e w)))) (add_assoc i j k) more.where_it_is;
      }

  -- an event that ends the job, and the rest of the events
  then_rest : (i : ℕ) (e : Event) (es : List Event) (w : World) → M.memory (M.next e w) ≡ laid step i (M.worked e w) (M.memory w) → i + M.worked e w ≡ total
      → (M.memory (after es (M.next e w)) ≡ M.memory (M.next e w)) × (count es (M.next e w) ≡ 0) × M.Over (after es (M.next e w))
      → Stands i (M.worked e w + count es (M.next e w)) w (after es (M.next e w))
  then_rest i e es w laid_one all rest =
      let k : M.worked e w ≡ M.worked e w + count es (M.next e w) = omega (arith, rest.1) in
      record {
        laid_down = rest.0 ∙ laid_one ∙ ap (λ (q : ℕ). laid step i q (M.memory w)) k;
        where_it_is = inr (omega (arith, all, rest.1), rest.2);
      }

  -- Whatever events come, as long as none drops the job or begins another: exactly the steps of the working ticks are done.
  pub stands : (es : List Event) (i : ℕ) (w : World) → M.At i w → AllSpare es w → i < total → Stands i (count es w) w (after es w)
  unfolding after count AllSpare laid
  stands [] i w a s h = record { laid_down = refl; where_it_is = inl (omega arith, subst (λ (q : ℕ). M.At q w) (sym (add-zero i)) a) }
  stands (e ∷ es) i w a s h =
      let one = M.goes i e w a s.0 in
      ⊎_elim
      (λ on. then_more i e es w one.0 (stands es (i + M.worked e w) (M.next e w) on.1 s.1 on.0))
      (λ end. then_rest i e es w one.0 end.0 (over_stays es (M.next e w) end.1 s.1))
      one.1
