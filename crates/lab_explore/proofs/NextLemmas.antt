-- A search between two calls: what is known of a set behind a step, and of what is to be done next.
use Rattle.std.proofs.Common.{◌≡◌, refl, sym, ◌∙◌, ap, ℕ, Bool, true, false, None, Some, List, ◌∷◌, [], drop}
use Rattle.std.specs.Prelude.{Contains, slice_get}
use Rattle.om_code.specs.declared.raw.Raw.{Raw}
use Rattle.om_state.specs.declared.step.Label.{Label}
use Rattle.om_state.specs.State.{State}
use Rattle.lab_explore_states.specs.Sets.{StatesView, Inserts, gone_to}
use Rattle.lab_explore.specs.declared.search.Search.{Search}
use Rattle.lab_explore.specs.declared.todo.Todo.{Todo}
use Rattle.lab_explore.specs.Acts.{Act, Back}
use Rattle.lab_explore.specs.Searches.{acts_of, IsSafe, IsUnderWay, IsSearch, HasArrived, Arrives}

module _ (program : Raw) (workers : ℕ) where
  -- a set behind a step, and what is known by whether its state is new

  pub inserted_past : (added : Bool) (s t u : StatesView) (m : State) → s ≡ gone_to m u → Inserts added s t
      → t.past ≡ u.at ∷ u.past
  inserted_past true s t u m follows inserts =
      ap (λ (k : StatesView). k.past) inserts.1 ∙ ap (λ (k : StatesView). k.past) follows
  inserted_past false s t u m follows inserts =
      ap (λ (k : StatesView). k.past) inserts.1 ∙ ap (λ (k : StatesView). k.past) follows

  pub was_there : (added : Bool) (s t : StatesView) → Inserts added s t → added ≡ false
      → Contains s.states s.at × (t ≡ s)
  was_there true s t inserts old = cc
  was_there false s t inserts old = inserts

  pub arrives_old : (l : Label) (added : Bool) (x : Search) → added ≡ false
      → IsSearch program workers (acts_of x) x → Arrives program workers l added x
  arrives_old l true x old h = cc
  arrives_old l false x old h = h

  pub arrives_new : (l : Label) (added : Bool) (x : Search) → added ≡ true
      → HasArrived program workers (Back l.worker ∷ acts_of x) x → Arrives program workers l added x
  arrives_new l true x new h = h
  arrives_new l false x new h = cc

  pub has_arrived : (l : Label) (added : Bool) (x : Search) → added ≡ true → Arrives program workers l added x
      → HasArrived program workers (Back l.worker ∷ acts_of x) x
  has_arrived l true x new h = h
  has_arrived l false x new h = cc

  -- what is to be done is no part of where a search stands

  abbrev safe_but : (x : Search) (todos : List Todo) → IsSafe program workers x
      → IsSafe program workers (record x { todos = todos })
  safe_but x todos h = record {
    sound = h.sound;
    reached = h.reached;
    different = h.different;
    begun = h.begun;
    stepped = h.stepped;
    round = h.round;
  }

  abbrev way_but : (acts : List Act) (x : Search) (todos : List Todo) → IsUnderWay program workers acts x
      → IsUnderWay program workers acts (record x { todos = todos })
  way_but acts x todos h = record {
    program_is = h.program_is;
    workers_are = h.workers_are;
    steps_are = h.steps_are;
    latest = h.latest;
    entries = h.entries;
    leads = h.leads;
    stands_at = h.stands_at;
    past = h.past;
    stands = h.stands;
  }

  pub search_but : (acts : List Act) (x : Search) (todos : List Todo) → IsSearch program workers acts x
      → IsSearch program workers acts (record x { todos = todos })
  search_but acts x todos h = record {
    safe = safe_but x todos h.safe;
    way = way_but acts x todos h.way;
    start = h.start;
    closed = h.closed;
    noted = h.noted;
  }

  pub arrived_but : (acts : List Act) (x : Search) (todos : List Todo) → HasArrived program workers acts x
      → HasArrived program workers acts (record x { todos = todos })
  arrived_but acts x todos h = record {
    safe = safe_but x todos h.safe;
    way = way_but acts x todos h.way;
    start = h.start;
    here = h.here;
    closed = h.closed;
    noted = h.noted;
  }

-- what is done next

pub popped : (ts : List Todo) (t : Todo) → Some t ≡ slice_get ts 0 → ts ≡ t ∷ drop 1 ts
popped [] t h = cc
popped (x ∷ xs) t h = let same : t ≡ x = cc in ap (λ y. y ∷ xs) (sym same)

pub none_popped : (ts : List Todo) → None ≡ slice_get ts 0 → ts ≡ []
none_popped [] h = refl
none_popped (x ∷ xs) h = cc
