mod SlowDisks
