mod ArbiterRuns
