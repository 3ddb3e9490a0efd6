-- Laws of executions, for any plan and any action theory: an execution as a chain of steps, and executions that go on for ever.
-- Where each step is determined, the shorter of two executions from the same place is the beginning of the longer. A place is a
-- program state with a situation.
use mathlib.Core.Path.{◌≡◌, refl, sym, ap, subst, subst₂, ◌∙◌}
use mathlib.Core.List.{List, [], ◌∷◌, ◌++◌, append-nil}
use Prim.Native.Nat.{ℕ, zero, suc, ◌≤◌}
use native.Mathlib.Decide.{dec_le}
use native.Mathlib.Omega.{arith}
use lib.ListN.{length, length-append}
use Rattle.plans.specs.Plan.{ActionTheory, Plan}
use Rattle.plans.specs.Execution.{Label, Step, T*, here, join, step, Forever}

module _ (D : ActionTheory) (P : Plan) where
  -- ---- an execution step by step

  -- An execution with its first step outermost.
  pub data Chain : List Label → P.State → D.Situation → P.State → D.Situation → Type 0 where
    done : {q : P.State} {s : D.Situation} → Chain [] q s q s
    first :
        {l : Label} {ls : List Label} {q q'' q' : P.State} {s s'' s' : D.Situation} →
        Step D P q s l q'' s'' → Chain ls q'' s'' q' s' → Chain (l ∷ ls) q s q' s'

  -- Two chains, one after the other.
  pub chain_append :
      {ls ms : List Label} {q q'' q' : P.State} {s s'' s' : D.Situation} →
      Chain ls q s q'' s'' → Chain ms q'' s'' q' s' → Chain (ls ++ ms) q s q' s'
  chain_append done b = b
  chain_append (first x a) b = first x (chain_append a b)

  -- Each execution is a chain, and each chain an execution.
  pub execution→chain : {ls : List Label} {q q' : P.State} {s s' : D.Situation} → T* D P ls q s q' s' → Chain ls q s q' s'
  execution→chain here = done
  execution→chain (join a b) = chain_append (execution→chain a) (execution→chain b)
  execution→chain (step x) = first x done

  pub chain→execution : {ls : List Label} {q q' : P.State} {s s' : D.Situation} → Chain ls q s q' s' → T* D P ls q s q' s'
  chain→execution done = here
  chain→execution (first x a) = join (step x) (chain→execution a)

  no_steps : {q q' : P.State} {s s' : D.Situation} → Chain [] q s q' s' → (q ≡ q') × (s ≡ s')
  no_steps done = (refl, refl)

  -- An execution without steps ends where it begins.
  pub nothing_done : {q q' : P.State} {s s' : D.Situation} → T* D P [] q s q' s' → (q ≡ q') × (s ≡ s')
  nothing_done a = no_steps (execution→chain a)

  split_chain :
      (ls : List Label) {ms : List Label} {q q' : P.State} {s s' : D.Situation} → Chain (ls ++ ms) q s q' s' →
      (q'' : P.State) × (s'' : D.Situation) × Chain ls q s q'' s'' × Chain ms q'' s'' q' s'
  split_chain [] a = (_, _, done, a)
  split_chain (l ∷ ls) (first x a) = let (q'', s'', b, c) = split_chain ls a in (q'', s'', first x b, c)

  -- An execution by two lists of steps, one after the other, is at some place between them.
  pub split_execution :
      (ls : List Label) {ms : List Label} {q q' : P.State} {s s' : D.Situation} → T* D P (ls ++ ms) q s q' s' →
      (q'' : P.State) × (s'' : D.Situation) × T* D P ls q s q'' s'' × T* D P ms q'' s'' q' s'
  split_execution ls a =
      let (q'', s'', b, c) = split_chain ls (execution→chain a) in
      (q'', s'', chain→execution b, chain→execution c)

  -- The execution reaches the place (state, at) by the steps ls, and goes on from there by a last step, with label l.
  pub record LastStep
      (ls : List Label) (l : Label) (q : P.State) (s : D.Situation) (q' : P.State) (s' : D.Situation) : Type 0 where
    pub state : P.State
    pub at : D.Situation
    pub before : T* D P ls q s state at
    pub last : Step D P state at l q' s'

  -- An execution whose labels end with l has a last step, and its label is l.
  pub last_step :
      (ls : List Label) {l : Label} {q q' : P.State} {s s' : D.Situation} →
      T* D P (ls ++ (l ∷ [])) q s q' s' → LastStep ls l q s q' s'
  last_step ls {l} {q} {q'} {s} {s'} a = by (split_chain ls (execution→chain a))
    where
      by :
          (q'' : P.State) × (s'' : D.Situation) × Chain ls q s q'' s'' × Chain (l ∷ []) q'' s'' q' s' → LastStep ls l q s q' s'
      by (q'', s'', b, first x done) = record { state = q''; at = s''; before = chain→execution b; last = x }

  -- The labels of an execution determine its program state, whatever the situations are.
  same_chain_state :
      {ls : List Label} {q q₁ q₂ : P.State} {s s₁ s' s₂ : D.Situation} →
      Chain ls q s q₁ s₁ → Chain ls q s' q₂ s₂ → q₁ ≡ q₂
  same_chain_state done done = refl
  same_chain_state (first x a) (first {ls = ls} {q' = q₂} {s'' = s''} {s' = s₂} y b) =
      let same = sym y.branch ∙ x.branch in
      same_chain_state a (subst (λ q. Chain ls q s'' q₂ s₂) (cc) b)

  pub same_labels_same_state :
      {ls : List Label} {q q₁ q₂ : P.State} {s s₁ s' s₂ : D.Situation} →
      T* D P ls q s q₁ s₁ → T* D P ls q s' q₂ s₂ → q₁ ≡ q₂
  same_labels_same_state a b = same_chain_state (execution→chain a) (execution→chain b)

  -- ---- executions for ever

  step_before : {l : Label} {q q' : P.State} {s s' : D.Situation} → Step D P q s l q' s' → Forever D P q' s' → Forever D P q s
  step_before {l} {q} {q'} {s} {s'} x f =
      record { states = states; situations = situations; labels = labels; begins = (refl, refl); steps = steps }
    where
      states : ℕ → P.State
      states zero = q
      states (suc i) = f.states i

      situations : ℕ → D.Situation
      situations zero = s
      situations (suc i) = f.situations i

      labels : ℕ → Label
      labels zero = l
      labels (suc i) = f.labels i

      steps : (i : ℕ) → Step D P (states i) (situations i) (labels i) (states (suc i)) (situations (suc i))
      steps zero = subst₂ (λ q' s'. Step D P q s l q' s') (sym f.begins.0) (sym f.begins.1) x
      steps (suc i) = f.steps i

  -- If an execution reaches a place from which it goes on for ever, it goes on for ever from its beginning.
  pub forever_before :
      {ls : List Label} {q q' : P.State} {s s' : D.Situation} →
      T* D P ls q s q' s' → Forever D P q' s' → Forever D P q s
  forever_before here f = f
  forever_before (join a b) f = forever_before a (forever_before b f)
  forever_before (step x) f = step_before x f

  -- The first n steps of an execution that goes on for ever.
  pub first_steps :
      {q : P.State} {s : D.Situation} (f : Forever D P q s) (n : ℕ) →
      (ls : List Label) × (length ls ≡ n) × T* D P ls q s (f.states n) (f.situations n)
  first_steps f zero =
      ([], refl, subst₂ (λ q s. T* D P [] q s (f.states 0) (f.situations 0)) f.begins.0 f.begins.1 here)
  first_steps f (suc n) =
      let (ls, e, a) = first_steps f n in
      (ls ++ (f.labels n ∷ []), omega (arith, length-append ls (f.labels n ∷ [])), join a (step (f.steps n)))

  -- ---- where each step is determined

  -- At most one step leaves each place.
  pub record StepsDetermined : Type 0 where
    pub one_step :
        {l m : Label} {q q₁ q₂ : P.State} {s s₁ s₂ : D.Situation} →
        Step D P q s l q₁ s₁ → Step D P q s m q₂ s₂ → (l ≡ m) × (q₁ ≡ q₂) × (s₁ ≡ s₂)

  -- No step leaves the place.
  abbrev pub Halted : P.State → D.Situation → Type 0
  Halted q s = (l : Label) (q' : P.State) (s' : D.Situation) → ¬ (Step D P q s l q' s')

  not_halted : {l : Label} {ls : List Label} {q q' : P.State} {s s' : D.Situation} → Chain (l ∷ ls) q s q' s' → ¬ (Halted q s)
  not_halted {l} (first x a) halted = halted l _ _ x

  module _ (determined : StepsDetermined) where
    shared_chain :
        {ls ms : List Label} {q q₁ q₂ : P.State} {s s₁ s₂ : D.Situation} →
        Chain ls q s q₁ s₁ → Chain ms q s q₂ s₂ → length ls ≤ length ms →
        (ns : List Label) × (ms ≡ ls ++ ns) × Chain ns q₁ s₁ q₂ s₂
    shared_chain {ms = ms} done b h = (ms, refl, b)
    shared_chain (first x a) done h = absurd (omega arith)
    shared_chain (first {l = l} x a) (first {ls = ms} {q' = q₂} {s' = s₂} y b) h =
        let (same_label, same_state, same_situation) = determined.one_step x y in
        let b' = subst₂ (λ q s. Chain ms q s q₂ s₂) (sym same_state) (sym same_situation) b in
        let (ns, e, c) = shared_chain a b' (omega arith) in
        (ns, cc, c)

    -- The shorter of two executions from the same place is the beginning of the longer, which goes on from where the shorter ends.
    pub shared_beginning :
        {ls ms : List Label} {q q₁ q₂ : P.State} {s s₁ s₂ : D.Situation} →
        T* D P ls q s q₁ s₁ → T* D P ms q s q₂ s₂ → length ls ≤ length ms →
        (ns : List Label) × (ms ≡ ls ++ ns) × T* D P ns q₁ s₁ q₂ s₂
    shared_beginning a b h =
        let (ns, e, c) = shared_chain (execution→chain a) (execution→chain b) h in
        (ns, e, chain→execution c)

    -- Two executions from the same place with the same number of steps are equal.
    pub same_length_same_execution :
        {ls ms : List Label} {q q₁ q₂ : P.State} {s s₁ s₂ : D.Situation} →
        T* D P ls q s q₁ s₁ → T* D P ms q s q₂ s₂ → length ls ≡ length ms → (ls ≡ ms) × (q₁ ≡ q₂) × (s₁ ≡ s₂)
    same_length_same_execution {ls} {ms} {q₁ = q₁} {q₂ = q₂} {s₁ = s₁} {s₂ = s₂} a b h =
        go (shared_chain (execution→chain a) (execution→chain b) (omega arith))
      where
        go : (ns : List Label) × (ms ≡ ls ++ ns) × Chain ns q₁ s₁ q₂ s₂ → (ls ≡ ms) × (q₁ ≡ q₂) × (s₁ ≡ s₂)
        go ([], e, c) = let (same_state, same_situation) = no_steps c in (sym (e ∙ append-nil ls), same_state, same_situation)
        go (n ∷ ns, e, c) = absurd (omega (arith, simp length-append at (ap length e)))

    -- If an execution reaches a place that no step leaves, no execution from the same beginning is longer.
    pub longest :
        {ls ms : List Label} {q q₁ q₂ : P.State} {s s₁ s₂ : D.Situation} →
        T* D P ls q s q₁ s₁ → Halted q₁ s₁ → T* D P ms q s q₂ s₂ → length ms ≤ length ls
    longest {ls} {ms} {q₁ = q₁} {q₂ = q₂} {s₁ = s₁} {s₂ = s₂} a halted b = go (dec_le (length ls) (length ms))
      where
        after : (ns : List Label) × (ms ≡ ls ++ ns) × Chain ns q₁ s₁ q₂ s₂ → length ms ≤ length ls
        after ([], e, c) = omega (arith, simp length-append at (ap length e))
        after (n ∷ ns, e, c) = absurd (not_halted c halted)

        go : Dec (length ls ≤ length ms) → length ms ≤ length ls
        go (yes h) = after (shared_chain (execution→chain a) (execution→chain b) h)
        go (no h) = omega arith

    -- If an execution reaches a place that no step leaves, it does not go on for ever.
    pub halted_not_forever :
        {ls : List Label} {q q₁ : P.State} {s s₁ : D.Situation} →
        T* D P ls q s q₁ s₁ → Halted q₁ s₁ → ¬ (Forever D P q s)
    halted_not_forever {ls} a halted f =
        let (ms, e, b) = first_steps f (suc (length ls)) in
        let h = longest a halted b in
        omega arith
